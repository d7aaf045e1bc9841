use Rattle.step_laws.proofs.Sends.{send}
use Rattle.step_laws.proofs.laws.send_is_rightly_barred.Goals as goal

pub returns : goal.returns
returns c = λ s P. send s P
