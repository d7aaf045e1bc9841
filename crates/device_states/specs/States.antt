-- The states of devices and hosts (scsi_mid_low_api.rst, "scsi_device_set_state"; the kernel's scsi_device.h and scsi_host.h
-- name them). The pairs are this project's own, in outline after Linux.
use Rattle.std.specs.Prelude.{Bool, true, false, if◌then◌else◌, Result, Ok, Err}
use Rattle.mid_base.specs.declared.states.DeviceState.{DeviceState}
use Rattle.mid_base.specs.declared.states.DeviceState.TheVariants.{Created, Running, Quiesce, Block, Offline, Cancel, Del}
use Rattle.mid_base.specs.declared.states.HostState.{HostState}
use Rattle.mid_base.specs.declared.states.HostState.TheVariants as host
use Rattle.device_states.specs.declared.tables.Illegal.{Illegal}

abbrev pub is_online_state : DeviceState → Bool
is_online_state Offline = false
is_online_state Cancel = false
is_online_state Del = false
is_online_state _ = true

abbrev pub same_state : DeviceState → DeviceState → Bool
same_state Created Created = true
same_state Running Running = true
same_state Quiesce Quiesce = true
same_state Block Block = true
same_state Offline Offline = true
same_state Cancel Cancel = true
same_state Del Del = true
same_state _ _ = false

abbrev pub is_running : DeviceState → Bool
is_running Running = true
is_running _ = false

-- no command is accepted for it
abbrev pub is_closed : DeviceState → Bool
is_closed Cancel = true
is_closed Del = true
is_closed _ = false

-- the pairs of states that a device may go through: from, to
abbrev pub may_become : DeviceState → DeviceState → Bool
may_become Created Running = true
may_become Offline Running = true
may_become Quiesce Running = true
may_become Block Running = true
may_become Running Quiesce = true
may_become Running Block = true
may_become Created Offline = true
may_become Running Offline = true
may_become Quiesce Offline = true
may_become Block Offline = true
may_become Created Cancel = true
may_become Running Cancel = true
may_become Quiesce Cancel = true
may_become Block Cancel = true
may_become Offline Cancel = true
may_become Created Del = true
may_become Cancel Del = true
may_become _ _ = false

-- the pairs of states that a host may go through: from, to
abbrev pub host_may_become : HostState → HostState → Bool
host_may_become host.Created host.Running = true
host_may_become host.Recovery host.Running = true
host_may_become host.Running host.Recovery = true
host_may_become host.Created host.Cancel = true
host_may_become host.Running host.Cancel = true
host_may_become host.CancelRecovery host.Cancel = true
host_may_become host.Cancel host.CancelRecovery = true
host_may_become host.Recovery host.CancelRecovery = true
host_may_become host.CancelRecovery host.DelRecovery = true
host_may_become host.Cancel host.Del = true
host_may_become host.DelRecovery host.Del = true
host_may_become _ _ = false

-- the state that was asked for, where the pair is legal
abbrev pub set_or_refuse : {A : Type 0} → Bool → A → A → Result A (Illegal A)
set_or_refuse legal had asked = if legal then Ok asked else Err (record { had = had; asked = asked })
