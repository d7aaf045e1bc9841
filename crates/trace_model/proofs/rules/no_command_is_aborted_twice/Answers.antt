use Rattle.std.proofs.Common.{refl, not, true}
use Rattle.std.proofs.lemmas.Bool.{eq-eqb}
use Rattle.trace_model.proofs.Single.{middle_false}
use Rattle.trace_model.proofs.rules.no_command_is_aborted_twice.Goals as goal

pub returns : goal.returns
returns c = λ s P c n. rw (eq-eqb c.0 c.0 refl) (middle_false (not s.no_async_abort) (not true) _ refl)
