-- The depths of a host's devices.
use Rattle.std.specs.Prelude.{ℕ, ◌≡◌, ◌≤◌, ◌<◌, Bool, if◌then◌else◌, List, Option, find, option_map, unwrap_or}
use Rattle.mid_base.specs.declared.names.DevAddr.{DevAddr}
use Rattle.mid_base.specs.Address.{same_dev}
use Rattle.mid_base.specs.Depths.{Depth, after_full, after_good}
use Rattle.tag_pool.specs.declared.depths.DeviceDepth.{DeviceDepth}

abbrev pub at_depth : Depth → DeviceDepth → DeviceDepth
at_depth x device = record device { depth = x.0; goods = x.1 }

-- a device after TASK SET FULL, and after GOOD
abbrev pub fuller : ℕ → DeviceDepth → DeviceDepth
fuller out device = at_depth (after_full out (device.depth, device.goods)) device

abbrev pub better : DeviceDepth → DeviceDepth
better device = at_depth (after_good device.scripted (device.depth, device.goods)) device

-- a device with its scripted depth, before any answer
abbrev pub at_start : DevAddr × ℕ → DeviceDepth
at_start x = record { dev = x.0; scripted = x.1; depth = x.1; goods = 0 }

abbrev pub is_at : DevAddr → DeviceDepth → Bool
is_at dev device = same_dev device.dev dev

-- what is kept of a device, None where the pool doesn't know it
abbrev pub device : DevAddr → List DeviceDepth → Option DeviceDepth
device dev devices = find (is_at dev) devices

-- the depth of a device, 0 of one that the pool doesn't know
abbrev pub depth_in : DevAddr → List DeviceDepth → ℕ
depth_in dev devices = unwrap_or (option_map (λ x. x.depth) (device dev devices)) 0

-- this device has changed by f, and every other one is what it was
abbrev pub Changes : DevAddr → (DeviceDepth → DeviceDepth) → List DeviceDepth → List DeviceDepth → Type 0
Changes dev f before after =
    (d : DevAddr) → device d after ≡ (if same_dev dev d then option_map f (device d before) else device d before)

-- the depth is 1 to the scripted one, and fewer than four GOODs are counted
abbrev pub IsSound : DeviceDepth → Type 0
IsSound device = (1 ≤ device.depth) × (device.depth ≤ device.scripted) × (device.goods < 4)
