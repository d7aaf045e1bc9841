use Rattle.step_laws.proofs.Settles.{settles}
use Rattle.step_laws.proofs.laws.settle_is_rightly_barred.Goals as goal

pub returns : goal.returns
returns c = λ s P n each. settles s P n each
