use Rattle.step_laws.proofs.Simple.{drops}
use Rattle.step_laws.proofs.laws.drop_is_rightly_barred.Goals as goal

pub returns : goal.returns
returns c = λ s P n. drops s P n
