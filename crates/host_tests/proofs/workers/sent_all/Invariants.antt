use Rattle.host_words.specs.Seats.{view}
use Rattle.host_tests.specs.Turned.{IsBack, AllTold}
use Rattle.host_tests.proofs.workers.sent_all.Given as goal

abbrev pub invariant-loop-i : goal.invariant-loop-i
invariant-loop-i g l = IsBack l.fn.table l.fn.seat l.seat × AllTold l.i (view l.seat).seen
