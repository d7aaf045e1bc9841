use Rattle.std.proofs.Common.{◌≡◌, ◌≤◌, length, map, take}
use Rattle.std.specs.Prelude.{vec_capacity}
use Rattle.device_table.specs.Rows.{start_row}
use Rattle.device_table.proofs.devices.rows_for.Given as goal

abbrev pub invariant-loop-lun : goal.invariant-loop-lun
invariant-loop-lun l = (l.rows.items ≡ map start_row (take l.lun-index l.luns)) × (length l.luns ≤ vec_capacity l.rows)
