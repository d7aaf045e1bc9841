use Rattle.std.proofs.Common.{length, ap, arith}
use Rattle.escalation.specs.Climbing.{Climb}
use Rattle.climb_tests.proofs.Ends.{pairs_length}
use Rattle.climb_tests.proofs.climbing.recovered.Goals as goal

pub climb-requires-clause-calls : goal.climb-requires-clause-calls
climb-requires-clause-calls g c κs within =
    omega (arith, ap (λ (k : Climb). length k.ahead) c.in_ok-ladder.ensures, pairs_length c.args.todo.items, c.calls_for-calls.ensures, ap length c.deref.ensures.value)
