use Rattle.std.proofs.Common.{◌≡◌, ◌<◌, ◌+◌, length}
use Rattle.climb_tests.proofs.Ends.{left_after}
use Rattle.climb_tests.proofs.climbing.climb.Given as goal

abbrev pub invariant-loop : goal.invariant-loop
invariant-loop g l = record {
  left : l.ladder.left ≡ left_after l.told.items l.fn.ladder.left;
  ahead : length l.ladder.ahead + l.counter < l.calls;
  len : length l.into ≡ length l.fn.into;
}
