use Rattle.recovery_laws.proofs.Owned.{failed_owned}
use Rattle.recovery_laws.proofs.failures.each_failed_attempt_was_lost_or_answered.Goals as goal

pub returns : goal.returns
returns c = λ s P each. failed_owned s P each
