use Rattle.std.proofs.Common.{◌≡◌, ◌++◌, ◌∷◌, [], length, map, take, drop}
use Rattle.escalation.specs.Climbing.{as_told}
use Rattle.escalation.proofs.leaving.give_sense.Given as goal

abbrev pub invariant-loop-place : goal.invariant-loop-place
invariant-loop-place l = (l.left.items ≡ map (as_told (l.entry ∷ [])) (take l.place l.initial.left.items) ++ drop l.place l.initial.left.items) × (length l.left.items ≡ length l.initial.left.items)
