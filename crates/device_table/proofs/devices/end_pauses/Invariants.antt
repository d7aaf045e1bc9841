use Rattle.std.proofs.Common.{◌≡◌, ◌++◌, length, map, take, drop}
use Rattle.device_table.specs.Rows.{unpaused}
use Rattle.device_table.proofs.devices.end_pauses.Given as goal

abbrev pub invariant-loop-place : goal.invariant-loop-place
invariant-loop-place l = (l.rows.items ≡ map unpaused (take l.place l.initial.rows.items) ++ drop l.place l.initial.rows.items) × (length l.rows.items ≡ length l.initial.rows.items)
