use Rattle.std.proofs.Common.{◌≡◌, ℕ, ◌<◌, Some, false}
use Rattle.std.specs.Prelude.{slice_get}
use Rattle.mid_base.specs.Address.{same_dev}
use Rattle.device_table.specs.declared.rows.DeviceRow.{DeviceRow}
use Rattle.device_table.proofs.devices.Devices.place_of.Given as goal

abbrev pub invariant-loop-place : goal.invariant-loop-place
invariant-loop-place l = (k : ℕ) (r : DeviceRow) → k < l.place → slice_get l.self.rows.items k ≡ Some r → same_dev r.dev l.dev ≡ false
