use Rattle.host_tests.specs.Turned.{IsBack}
use Rattle.host_tests.proofs.workers.filled.Given as goal

abbrev pub invariant-loop : goal.invariant-loop
invariant-loop g l = IsBack l.fn.table l.fn.seat l.seat
