-- A small journal, for the laws to be shown at: two commands are sent, the second is answered and belongs to its answer, and
-- the time of the first is up.
use Rattle.std.specs.Prelude.{ℕ, false, List, [], ◌∷◌}
use Rattle.mid_base.specs.Answers.{made}
use Rattle.mid_base.specs.Codes.{did_ok}
use Rattle.mid_base.specs.declared.answers.By.TheVariants.{Answer}
use Rattle.mid_base.specs.declared.entries.Entry.{Entry}
use Rattle.mid_base.specs.declared.entries.Entry.TheVariants.{Took, Sent, Ready, Due, Owned, Tick}
use Rattle.mid_base.specs.declared.host_spec.CmdSpec.{CmdSpec}
use Rattle.mid_base.specs.declared.host_spec.HostSpec.{HostSpec}
use Rattle.mid_base.specs.declared.host_spec.LunSpec.{LunSpec}
use Rattle.mid_base.specs.declared.names.Attempt.{Attempt}
use Rattle.mid_base.specs.declared.names.CmdId.{CmdId}
use Rattle.mid_base.specs.declared.names.Tag.{Tag}
use Rattle.mid_base.specs.declared.states.DeviceState.TheVariants.{Running}
use Rattle.trace_model.specs.Names.{no_command}

abbrev pub cmd : ℕ → CmdId
cmd c = record { 0 = c }

abbrev pub attempt : ℕ → Attempt
attempt n = record { 0 = n }

abbrev pub under : ℕ → Tag
under t = record { 0 = t }

-- a unit that takes two commands at once
abbrev pub small_unit : LunSpec
small_unit = record { dev = record { channel = 0; target = 0; lun = 0 }; blocks = 1; depth = 2; read_only = false; stopped = false; start = Running }

-- a command to it whose time is up after a tick
abbrev pub small_command : ℕ → CmdSpec
small_command c = record no_command { id = cmd c; timeout = 1 }

-- two tags, and no callbacks
abbrev pub small_spec : HostSpec
small_spec = record { no = record { 0 = 0 }; can_queue = 2; handlers = record { 0 = 0 }; no_async_abort = false; luns = small_unit ∷ []; cmds = small_command 1 ∷ small_command 2 ∷ []; plan = [] }

abbrev pub small : List Entry
small =
    Took (cmd 1) ∷
    Took (cmd 2) ∷
    Sent (cmd 1) (attempt 1) (under 0) ∷
    Sent (cmd 2) (attempt 2) (under 1) ∷
    Tick ∷
    Ready (attempt 2) (made did_ok) ∷
    Owned (attempt 2) Answer ∷
    Due (attempt 1) ∷
    []
