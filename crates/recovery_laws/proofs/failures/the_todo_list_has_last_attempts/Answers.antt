use Rattle.recovery_laws.proofs.Busy.{listed_last, todo_last}
use Rattle.recovery_laws.proofs.failures.the_todo_list_has_last_attempts.Goals as goal

pub returns-clause-all : goal.returns-clause-all
returns-clause-all c = λ s P each. listed_last s P each

pub returns-clause-left : goal.returns-clause-left
returns-clause-left c = λ s P each. todo_last s P each
