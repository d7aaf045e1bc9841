use Rattle.recovery_laws.proofs.Busy.{failed_busy}
use Rattle.recovery_laws.proofs.failures.failed_commands_are_busy.Goals as goal

pub returns : goal.returns
returns c = λ s P d n each h. failed_busy s P d n each h
