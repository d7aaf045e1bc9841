use Rattle.step_laws.proofs.Simple.{work}
use Rattle.step_laws.proofs.laws.work_is_rightly_barred.Goals as goal

pub returns : goal.returns
returns c = λ s P. work s P
