use Rattle.step_laws.proofs.Simple.{sets}
use Rattle.step_laws.proofs.laws.set_state_is_rightly_barred.Goals as goal

pub returns : goal.returns
returns c = λ s P d x. sets s P d x
