-- What a spec says of a command or a device.
use Rattle.std.specs.Prelude.{ℕ, false, List, [], ◌∷◌, if◌then◌else◌, Option, None, Some, replicate}
use Rattle.mid_base.specs.Padded.{empty_padded}
use Rattle.mid_base.specs.Address.{same_dev}
use Rattle.mid_base.specs.Past.{find_command}
use Rattle.mid_base.specs.declared.names.DevAddr.{DevAddr}
use Rattle.mid_base.specs.declared.states.DeviceState.{DeviceState}
use Rattle.mid_base.specs.declared.states.DeviceState.TheVariants.{Del}
use Rattle.mid_base.specs.declared.host_spec.CmdSpec.{CmdSpec}
use Rattle.mid_base.specs.declared.host_spec.LunSpec.{LunSpec}
use Rattle.mid_base.specs.declared.host_spec.HostSpec.{HostSpec}

-- what stands for a command that the spec hasn't; ids begin at 1
abbrev pub no_command : CmdSpec
no_command = record { id = record { 0 = 0 }; lane = record { 0 = 0 }; dev = record { channel = 0; target = 0; lun = 0 }; cdb = record { len = 0; bytes = replicate 16 0; padded = empty_padded 16 }; fill = 0; timeout = 0; allowed = 0; failfast = false }

abbrev pub or_no_command : Option CmdSpec → CmdSpec
or_no_command None = no_command
or_no_command (Some k) = k

-- the command of the spec with this id
abbrev pub command : HostSpec → ℕ → CmdSpec
command s c = or_no_command (find_command s c)

abbrev pub dev_of : HostSpec → ℕ → DevAddr
dev_of s c = (command s c).dev

abbrev pub start_in : List LunSpec → DevAddr → DeviceState
start_in [] d = Del
start_in (l ∷ ls) d = if same_dev l.dev d then l.start else start_in ls d

abbrev pub depth_in : List LunSpec → DevAddr → ℕ
depth_in [] d = 0
depth_in (l ∷ ls) d = if same_dev l.dev d then l.depth else depth_in ls d
