use Rattle.step_laws.proofs.Simple.{aborting}
use Rattle.step_laws.proofs.laws.abort_is_rightly_barred.Goals as goal

pub returns : goal.returns
returns c = λ s P. aborting s P
