use Rattle.ran_laws.proofs.Steps.{comes_one}
use Rattle.ran_laws.proofs.laws.a_step_comes_to_one_journal.Goals as goal

pub returns-clause-why : goal.returns-clause-why
returns-clause-why c s b P Q R t why other x y = (comes_one s b P t why other Q R x y).0

pub returns-clause-entries : goal.returns-clause-entries
returns-clause-entries c s b P Q R t why other x y = (comes_one s b P t why other Q R x y).1
