use Rattle.std.proofs.Common.{◌≡◌, ◌≤◌, ◌*◌, take}
use Rattle.std.specs.Prelude.{sum_by}
use Rattle.drain_rounds.proofs.bound.uses.Given as goal

abbrev pub invariant-loop-entry : goal.invariant-loop-entry
invariant-loop-entry l = (l.sum ≡ sum_by (λ e. e.uses) (take l.entry-index l.plan)) × (l.sum ≤ 4294967295 * l.entry-index)
