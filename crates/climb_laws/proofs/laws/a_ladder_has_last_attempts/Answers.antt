use Rattle.climb_laws.proofs.Lasts.{left_last}
use Rattle.climb_laws.proofs.laws.a_ladder_has_last_attempts.Goals as goal

pub returns : goal.returns
returns c = λ s P k each h. left_last s P k each h
