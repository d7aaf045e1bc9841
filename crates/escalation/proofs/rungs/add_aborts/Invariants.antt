use Rattle.std.proofs.Common.{◌≡◌, ◌++◌, take, map}
use Rattle.escalation.specs.Rungs.{aborts}
use Rattle.escalation.proofs.rungs.add_aborts.Given as goal

abbrev pub invariant-loop-x : goal.invariant-loop-x
invariant-loop-x l = l.rungs.items ≡ l.fn.rungs.items ++ map aborts (take l.x-index l.todo)
