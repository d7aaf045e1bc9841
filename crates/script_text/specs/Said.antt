-- What the lines so far say.
use Rattle.std.specs.Prelude.{◌≡◌, ◌<◌, ℕ, ◌==◌, Bool, false, if◌then◌else◌, List, [], ◌∷◌, ◌++◌, find, get_or, Option, Some, None}
use Rattle.std.specs.List.{list_any}
use Rattle.mid_base.specs.Address.{has_dev}
use Rattle.mid_base.specs.declared.names.DevAddr.{DevAddr}
use Rattle.mid_base.specs.declared.names.HostNo.{HostNo}
use Rattle.mid_base.specs.declared.faults.PlanEntry.{PlanEntry}
use Rattle.mid_base.specs.declared.host_spec.LunSpec.{LunSpec}
use Rattle.mid_base.specs.declared.host_spec.CmdSpec.{CmdSpec}
use Rattle.mid_base.specs.declared.host_spec.HostSpec.{HostSpec}
use Rattle.mid_base.specs.declared.steps.Step.{Step}

-- `line` is the number of the present line; `scans` are the devices that are found by scanning; `ids` are those of all
-- commands, in ascending order; `drain` says that the last line was read and has the hosts run on
pub record Said : Type 0 where
  pub line : ℕ
  pub hosts : List HostSpec
  pub scans : List (HostNo × DevAddr)
  pub ids : List ℕ
  pub plans : ℕ
  pub steps : List (ℕ × HostNo × Step)
  pub budget : Option ℕ
  pub ended : Bool
  pub drain : Bool

abbrev pub nothing : Said
nothing = record { line = 0; hosts = []; scans = []; ids = []; plans = 0; steps = []; budget = None; ended = false; drain = false }

-- there is a value, and it passes
abbrev pub passes : {V : Type 0} → (V → Bool) → Option V → Bool
passes test None = false
passes test (Some v) = test v

abbrev pub is_host : ℕ → HostSpec → Bool
is_host n h = h.no.0 == n

-- the host with this number, if an earlier line has one
abbrev pub host_of : List HostSpec → ℕ → Option HostSpec
host_of hosts n = find (is_host n) hosts

-- a command of this lane stands
abbrev pub has_lane : List CmdSpec → ℕ → Bool
has_lane cmds n = list_any (λ k. k.lane.0 == n) cmds

-- an earlier line has this unit of the host, this lane of the host, this command
abbrev pub is_unit : Option HostSpec → DevAddr → Bool
is_unit host a = passes (λ h. has_dev h.luns a) host

abbrev pub is_lane : Option HostSpec → ℕ → Bool
is_lane host n = passes (λ h. has_lane h.cmds n) host

abbrev pub is_id : List ℕ → ℕ → Bool
is_id ids n = list_any (λ i. i == n) ids

-- one more unit, planned fault, command of a host
abbrev pub with_unit : LunSpec → HostSpec → HostSpec
with_unit l h = record h { luns = h.luns ++ l ∷ [] }

abbrev pub with_planned : PlanEntry → HostSpec → HostSpec
with_planned e h = record h { plan = h.plan ++ e ∷ [] }

abbrev pub with_command : CmdSpec → HostSpec → HostSpec
with_command k h = record h { cmds = h.cmds ++ k ∷ [] }

-- the hosts, where the one with this number is changed
abbrev pub on_host : ℕ → (HostSpec → HostSpec) → List HostSpec → List HostSpec
on_host n change [] = []
on_host n change (h ∷ hosts) = if h.no.0 == n then change h ∷ hosts else h ∷ on_host n change hosts

-- a table of lanes tells which of them have a command
abbrev pub TellsLanes : List Bool → List CmdSpec → Type 0
TellsLanes lanes cmds = (n : ℕ) → n < 64 → get_or lanes n false ≡ has_lane cmds n
