-- The hosts of the worked journals, and their units and commands.
use Rattle.std.specs.Prelude.{refl, ℕ, Bool, true, false, List, [], ◌∷◌, ◌++◌, replicate}
use Rattle.std.proofs.Common.{arith}
use Rattle.mid_base.specs.Padded.{IsPadded, padded_made}
use Rattle.mid_base.specs.declared.bytes.CdbBytes.{CdbBytes}
use Rattle.mid_base.specs.declared.names.DevAddr.{DevAddr}
use Rattle.mid_base.specs.declared.states.DeviceState.{DeviceState}
use Rattle.mid_base.specs.declared.states.DeviceState.TheVariants.{Running}
use Rattle.mid_base.specs.declared.host_spec.CmdSpec.{CmdSpec}
use Rattle.mid_base.specs.declared.host_spec.LunSpec.{LunSpec}
use Rattle.mid_base.specs.declared.host_spec.HostSpec.{HostSpec}

-- channel, target and logical unit number
abbrev pub at : ℕ → ℕ → ℕ → DevAddr
at channel target lun = record { channel = channel; target = target; lun = lun }

abbrev pub unit : DevAddr
unit = at 0 0 0

pub zeros_padded : IsPadded 16 6 (replicate 16 0)
zeros_padded = padded_made 16 (replicate 6 0) (replicate 10 0) (omega arith) refl

-- TEST UNIT READY
abbrev pub test_block : CdbBytes
test_block = record { len = 6; bytes = replicate 16 0; padded = zeros_padded }

abbrev pub read_bytes : List ℕ
read_bytes = 40 ∷ 0 ∷ 0 ∷ 0 ∷ 0 ∷ 0 ∷ 0 ∷ 0 ∷ 1 ∷ 0 ∷ []

pub read_padded : IsPadded 16 10 (read_bytes ++ replicate 6 0)
read_padded = padded_made 16 read_bytes (replicate 6 0) (omega arith) refl

-- READ(10) of one block
abbrev pub read_block : CdbBytes
read_block = record { len = 10; bytes = read_bytes ++ replicate 6 0; padded = read_padded }

-- a command to the unit 0:0:0 in lane 0 that may be retried five times
abbrev pub command : CdbBytes → ℕ → ℕ → CmdSpec
command cdb c timeout = record { id = record { 0 = c }; lane = record { 0 = 0 }; dev = unit; cdb = cdb; fill = 0; timeout = timeout; allowed = 5; failfast = false }

-- TEST UNIT READY to a device, in a lane, with its timeout and so many retries allowed
abbrev pub ask_of : DevAddr → (c lane timeout allowed : ℕ) → CmdSpec
ask_of d c lane timeout allowed = record { id = record { 0 = c }; lane = record { 0 = lane }; dev = d; cdb = test_block; fill = 0; timeout = timeout; allowed = allowed; failfast = false }

-- the same, but it fails at the first error
abbrev pub fail_fast : CmdSpec → CmdSpec
fail_fast k = record { id = k.id; lane = k.lane; dev = k.dev; cdb = k.cdb; fill = k.fill; timeout = k.timeout; allowed = k.allowed; failfast = true }

abbrev pub test_unit : ℕ → ℕ → CmdSpec
test_unit c timeout = command test_block c timeout

abbrev pub read_one : ℕ → ℕ → CmdSpec
read_one c timeout = command read_block c timeout

-- a logical unit that takes so many commands at once, and whether it is stopped at first
abbrev pub lun : ℕ → Bool → LunSpec
lun depth stopped = record { dev = unit; blocks = 2048; depth = depth; read_only = false; stopped = stopped; start = Running }

-- a started unit, how many commands it takes at once, and the state that its device begins in
abbrev pub unit_at : DevAddr → ℕ → DeviceState → LunSpec
unit_at d depth start = record { dev = d; blocks = 2048; depth = depth; read_only = false; stopped = false; start = start }

-- so many tags, the callbacks of recovery by their bits, a unit, and commands
abbrev pub host : ℕ → ℕ → LunSpec → List CmdSpec → HostSpec
host tags callbacks unit cmds = record { no = record { 0 = 0 }; can_queue = tags; handlers = record { 0 = callbacks }; no_async_abort = false; luns = unit ∷ []; cmds = cmds; plan = [] }

-- the same with several units
abbrev pub host_of : ℕ → ℕ → List LunSpec → List CmdSpec → HostSpec
host_of tags callbacks units cmds = record { no = record { 0 = 0 }; can_queue = tags; handlers = record { 0 = callbacks }; no_async_abort = false; luns = units; cmds = cmds; plan = [] }

-- the host makes no asynchronous aborts
abbrev pub no_async : HostSpec → HostSpec
no_async s = record { no = s.no; can_queue = s.can_queue; handlers = s.handlers; no_async_abort = true; luns = s.luns; cmds = s.cmds; plan = s.plan }

-- the host has these callbacks
abbrev pub with_callbacks : ℕ → HostSpec → HostSpec
with_callbacks callbacks s = record { no = s.no; can_queue = s.can_queue; handlers = record { 0 = callbacks }; no_async_abort = s.no_async_abort; luns = s.luns; cmds = s.cmds; plan = s.plan }

-- abort, and resets of a device, a target, a bus and the host
abbrev pub all_callbacks : ℕ
all_callbacks = 31

abbrev pub device_reset : ℕ
device_reset = 2
