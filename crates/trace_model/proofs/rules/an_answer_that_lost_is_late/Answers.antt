use Rattle.std.proofs.Common.{refl}
use Rattle.std.proofs.lemmas.Bool.{eq-eqb}
use Rattle.trace_model.proofs.rules.an_answer_that_lost_is_late.Goals as goal

pub returns : goal.returns
returns c = λ P n a e. rw (eq-eqb n.0 n.0 refl, e) refl
