use Rattle.std.proofs.Common.{refl}
use Rattle.core_tests.proofs.callers.made_simulated_step.Goals as goal

pub returns : goal.returns
returns c = λ front rest d n t is. (c.step.ensures.earlier front rest d n t is refl refl).1
