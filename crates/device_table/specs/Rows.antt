-- What the rows of devices say.
use Rattle.std.specs.Prelude.{◌≡◌, ℕ, false, List, [], ◌∷◌, Option, option_map, slice_get, suc, if◌then◌else◌}
use Rattle.mid_base.specs.declared.names.DevAddr.{DevAddr}
use Rattle.mid_base.specs.declared.host_spec.LunSpec.{LunSpec}
use Rattle.mid_base.specs.Address.{same_dev}
use Rattle.device_table.specs.declared.rows.DeviceRow.{DeviceRow}

-- the rows are those of these units, one for each, in their order
abbrev pub AreFor : List LunSpec → List DeviceRow → Type 0
AreFor [] [] = Unit {0}
AreFor (l ∷ ls) (r ∷ rs) = (r.dev ≡ l.dev) × AreFor ls rs
AreFor ls rs = ⊥

abbrev pub start_row : LunSpec → DeviceRow
start_row l = record { dev = l.dev; state = l.start; paused = false }

abbrev pub scripted : LunSpec → DevAddr × ℕ
scripted l = (l.dev, l.depth)

-- each device after a tick
abbrev pub unpaused : DeviceRow → DeviceRow
unpaused r = record r { paused = false }

-- the place of a device
abbrev pub place_of : DevAddr → List DeviceRow → ℕ
place_of d [] = 0
place_of d (r ∷ rs) = if same_dev r.dev d then 0 else suc (place_of d rs)

abbrev pub dev_at : ℕ → List DeviceRow → Option DevAddr
dev_at i rows = option_map (λ r. r.dev) (slice_get rows i)
