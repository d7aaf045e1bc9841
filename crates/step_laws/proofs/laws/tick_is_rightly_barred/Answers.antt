use Rattle.step_laws.proofs.Simple.{goes_on}
use Rattle.step_laws.proofs.laws.tick_is_rightly_barred.Goals as goal

pub returns : goal.returns
returns c = λ s P. goes_on s P
