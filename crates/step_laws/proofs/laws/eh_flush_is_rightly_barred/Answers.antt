use Rattle.step_laws.proofs.Flushes.{flushes}
use Rattle.step_laws.proofs.laws.eh_flush_is_rightly_barred.Goals as goal

pub returns : goal.returns
returns c = λ s P each. flushes s P each
