use Rattle.std.proofs.Common.{◌≡◌, map, take}
use Rattle.escalation.specs.Climbing.{as_told}
use Rattle.escalation.proofs.leaving.take_sense.Given as goal

abbrev pub invariant-loop-entry : goal.invariant-loop-entry
invariant-loop-entry l = l.left.items ≡ map (as_told (take l.entry-index l.entries)) l.fn.left.items
