use Rattle.step_laws.proofs.Simple.{asks}
use Rattle.step_laws.proofs.laws.due_is_rightly_barred.Goals as goal

pub returns : goal.returns
returns c = λ s P. asks s P
