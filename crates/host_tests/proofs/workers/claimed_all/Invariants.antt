use Rattle.std.proofs.Common.{◌≡◌}
use Rattle.host_words.specs.Seats.{view}
use Rattle.host_tests.specs.Turned.{IsBack}
use Rattle.host_tests.proofs.workers.claimed_all.Given as goal

abbrev pub invariant-loop-i : goal.invariant-loop-i
invariant-loop-i l = IsBack l.fn.table l.fn.seat l.seat × ((view l.seat).seen ≡ (view l.fn.seat).seen)
