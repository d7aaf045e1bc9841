use Rattle.step_laws.proofs.Sends.{submit}
use Rattle.step_laws.proofs.laws.submit_is_rightly_barred.Goals as goal

pub returns : goal.returns
returns c = λ s P lane ids. submit s P lane ids
