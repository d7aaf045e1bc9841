use Rattle.recovery_laws.proofs.Busy.{failed_last}
use Rattle.recovery_laws.proofs.failures.each_failed_attempt_is_the_last_of_its_command.Goals as goal

pub returns : goal.returns
returns c = λ s P f each h. failed_last s P f each h
