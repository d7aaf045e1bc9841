use Rattle.step_laws.proofs.Simple.{owns}
use Rattle.step_laws.proofs.laws.own_is_rightly_barred.Goals as goal

pub returns : goal.returns
returns c = λ s P n by. owns s P n by
