-- The script that a number of commands asks for: a host with four units, of which each has two planned faults, and so many reads.
use Rattle.std.specs.Prelude.{ℕ, zero, suc, ◌+◌, ◌*◌, ◌/◌, ◌%◌, true, false, List, [], ◌∷◌, ◌++◌, None}
use Rattle.mid_base.specs.declared.names.DevAddr.{DevAddr}
use Rattle.mid_base.specs.declared.bytes.CdbBytes.{CdbBytes}
use Rattle.mid_base.specs.declared.states.DeviceState.TheVariants.{Running}
use Rattle.mid_base.specs.declared.faults.Fault.TheVariants.{Check, Never}
use Rattle.mid_base.specs.declared.faults.PlanEntry.{PlanEntry}
use Rattle.mid_base.specs.declared.host_spec.LunSpec.{LunSpec}
use Rattle.mid_base.specs.declared.host_spec.CmdSpec.{CmdSpec}
use Rattle.mid_base.specs.declared.host_spec.HostSpec.{HostSpec}
use Rattle.script_words.specs.Hex.{cdb_of}
use Rattle.script_text.specs.declared.script.Script.{Script}

-- the units are 0:0:0, 0:0:1, 0:1:0 and 0:1:1, with the numbers 0 to 3
abbrev pub address : ℕ → DevAddr
address k = record { channel = 0; target = k / 2; lun = k % 2 }

abbrev pub unit : ℕ → LunSpec
unit k = record { dev = address k; blocks = 65536; depth = 16; read_only = false; stopped = false; start = Running }

-- each fifth sending to a unit is answered ABORTED COMMAND, and each seventh isn't answered, a thousand times each
abbrev pub faults : ℕ → List PlanEntry
faults k =
    record { dev = address k; fault = Check 11 0 0; first = 5; every = 5; uses = 1000 }
    ∷ record { dev = address k; fault = Never; first = 7; every = 7; uses = 1000 }
    ∷ []

-- READ(10) of eight blocks from this one on, which is below 65536 (SBC-3, 5.11)
abbrev pub read : ℕ → CdbBytes
read block = cdb_of (40 ∷ 0 ∷ 0 ∷ 0 ∷ block / 256 ∷ block % 256 ∷ 0 ∷ 0 ∷ 8 ∷ 0 ∷ [])

-- command i, of lanes and units in turn
abbrev pub command : ℕ → CmdSpec
command i =
    record {
      id = record { 0 = i };
      lane = record { 0 = i % 4 };
      dev = address (i % 4);
      cdb = read (8 * i % 65536);
      fill = 0;
      timeout = 30;
      allowed = 5;
      failfast = false;
    }

-- commands 1 up to n
abbrev pub commands : ℕ → List CmdSpec
commands zero = []
commands (suc n) = commands n ++ command (n + 1) ∷ []

abbrev pub units : List LunSpec
units = unit 0 ∷ unit 1 ∷ unit 2 ∷ unit 3 ∷ []

abbrev pub plan : List PlanEntry
plan = faults 0 ++ (faults 1 ++ (faults 2 ++ faults 3))

abbrev pub host : ℕ → HostSpec
host n =
    record {
      no = record { 0 = 0 };
      can_queue = 64;
      handlers = record { 0 = 31 };
      no_async_abort = false;
      luns = units;
      cmds = commands n;
      plan = plan;
    }

abbrev pub made : ℕ → Script
made n = record { hosts = host n ∷ []; scans = []; steps = []; budget = None; drain = true }
