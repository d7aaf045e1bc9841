use Rattle.step_laws.proofs.Simple.{ends}
use Rattle.step_laws.proofs.laws.eh_end_is_rightly_barred.Goals as goal

pub returns : goal.returns
returns c = λ s P. ends s P
