-- How many commands a device may have out at once: its depth, which the answers of the device change (SAM-5, 5.3, TASK SET
-- FULL; scsi_mid_low_api.rst, "scsi_change_queue_depth"). The rule is this project's own.
use Rattle.std.specs.Prelude.{ℕ, ◌+◌, ◌-◌, ◌==◌, if◌then◌else◌, min, max}

-- a depth, and the GOODs that were counted since it last changed
abbrev pub Depth : Type 0
Depth = ℕ × ℕ

-- after TASK SET FULL, while `out` commands of the device are out: one fewer than those are, if that is less than the depth,
-- but at least one
abbrev pub after_full : ℕ → Depth → Depth
after_full out x =
    let less = max 1 (min x.0 (out - 1)) in
    if less == x.0 then x else (less, 0)

-- after GOOD, where the scripted depth is `most`: the fourth one since the depth last changed raises it by one
abbrev pub after_good : ℕ → Depth → Depth
after_good most x =
    if x.0 == most then x else if x.1 == 3 then (x.0 + 1, 0) else (x.0, x.1 + 1)
