use Rattle.std.proofs.Common.{◌≡◌, ◌≤◌, ℕ, ◌<◌, Some, length}
use Rattle.std.specs.Prelude.{slice_get, vec_capacity}
use Rattle.command_table.specs.Rows.{first_left}
use Rattle.command_table.proofs.lanes.first_cursors.Given as goal

abbrev pub invariant-loop-lane : goal.invariant-loop-lane
invariant-loop-lane l =
    (length l.cursors.items ≡ l.lane)
    × ((n : ℕ) → n < l.lane → slice_get l.cursors.items n ≡ Some (first_left n l.rows.items))
    × (64 ≤ vec_capacity l.cursors)
