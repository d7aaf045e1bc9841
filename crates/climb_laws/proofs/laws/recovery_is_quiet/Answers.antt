use Rattle.step_laws.proofs.Rests.{begun_quiet}
use Rattle.climb_laws.proofs.laws.recovery_is_quiet.Goals as goal

pub returns : goal.returns
returns c = λ s P each begun. begun_quiet s P each begun
