use Rattle.std.proofs.Common.{◌≡◌, ℕ, ◌<◌, ◌≤◌, Some, false}
use Rattle.std.specs.Prelude.{slice_get}
use Rattle.command_table.specs.declared.rows.CommandRow.{CommandRow}
use Rattle.command_table.specs.Rows.{is_left}
use Rattle.command_table.proofs.lanes.next_from.Given as goal

abbrev pub invariant-loop-place : goal.invariant-loop-place
invariant-loop-place l = (k : ℕ) (r : CommandRow) → l.fn.from ≤ k → k < l.place → slice_get l.rows k ≡ Some r → is_left l.lane.0 r ≡ false
