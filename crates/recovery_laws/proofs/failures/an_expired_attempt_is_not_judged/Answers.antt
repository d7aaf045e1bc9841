use Rattle.recovery_laws.proofs.Unjudged.{expired_unjudged}
use Rattle.recovery_laws.proofs.failures.an_expired_attempt_is_not_judged.Goals as goal

pub returns : goal.returns
returns c = λ s P n each e. expired_unjudged s P n each e
