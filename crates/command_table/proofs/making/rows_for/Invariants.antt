use Rattle.std.proofs.Common.{◌≡◌, ◌≤◌, length, map, take}
use Rattle.std.specs.Prelude.{vec_capacity}
use Rattle.command_table.specs.Rows.{start_row}
use Rattle.command_table.proofs.making.rows_for.Given as goal

abbrev pub invariant-loop-command : goal.invariant-loop-command
invariant-loop-command l = (l.rows.items ≡ map (start_row l.luns) (take l.command-index l.cmds)) × (length l.cmds ≤ vec_capacity l.rows)
