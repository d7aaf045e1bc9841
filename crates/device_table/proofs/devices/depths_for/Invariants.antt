use Rattle.std.proofs.Common.{◌≡◌, ◌≤◌, length, map, take}
use Rattle.std.specs.Prelude.{vec_capacity}
use Rattle.device_table.specs.Rows.{scripted}
use Rattle.device_table.proofs.devices.depths_for.Given as goal

abbrev pub invariant-loop-lun : goal.invariant-loop-lun
invariant-loop-lun l = (l.depths.items ≡ map scripted (take l.lun-index l.luns)) × (length l.luns ≤ vec_capacity l.depths)
