use Rattle.std.proofs.Common.{◌≡◌, ◌≤◌, ℕ, false, length}
use Rattle.std.specs.Prelude.{vec_capacity}
use Rattle.command_table.specs.Sets.{has, out_of}
use Rattle.command_table.proofs.sets.empty_sets.Given as goal

abbrev pub invariant-loop-i : goal.invariant-loop-i
invariant-loop-i l = ((d j : ℕ) → has l.lines.items d j ≡ false) × ((d : ℕ) → out_of l.lines.items d ≡ 0) × (length l.lines.items ≡ l.i) × (l.fn.count ≤ vec_capacity l.lines)
