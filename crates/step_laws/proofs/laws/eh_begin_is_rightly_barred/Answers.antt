use Rattle.step_laws.proofs.Simple.{begins}
use Rattle.step_laws.proofs.laws.eh_begin_is_rightly_barred.Goals as goal

pub returns : goal.returns
returns c = λ s P. begins s P
