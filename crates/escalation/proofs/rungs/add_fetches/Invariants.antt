use Rattle.std.proofs.Common.{◌≡◌, ◌++◌, take, map}
use Rattle.escalation.specs.Rungs.{fetches}
use Rattle.escalation.proofs.rungs.add_fetches.Given as goal

abbrev pub invariant-loop-x : goal.invariant-loop-x
invariant-loop-x l = l.rungs.items ≡ l.fn.rungs.items ++ map fetches (take l.x-index l.todo)
