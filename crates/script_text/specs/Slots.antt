-- Which words may stand behind the first one of a line, and what is wrong with others.
use Rattle.std.specs.Prelude.{ℕ, nat_lt, Bool, true, false, not, ◌&&◌, ◌||◌, if◌then◌else◌, List, [], ◌∷◌, length, Option, Some, None, is_some, codes}
use Rattle.std.specs.Str.{bytes_eq}
use Rattle.mid_base.specs.Limits.{last_number}
use Rattle.mid_base.specs.declared.host_spec.HostSpec.{HostSpec}
use Rattle.script_words.specs.declared.keywords.Keyword.{Keyword}
use Rattle.script_words.specs.declared.keywords.Keyword.TheVariants as lines
use Rattle.script_words.specs.declared.keywords.StepName.{StepName}
use Rattle.script_words.specs.declared.keywords.StepName.TheVariants as names
use Rattle.script_words.specs.declared.plan_kinds.PlanKind.{PlanKind}
use Rattle.script_words.specs.declared.plan_kinds.PlanKind.TheVariants as plans
use Rattle.script_words.specs.declared.kind.Kind.{Kind}
use Rattle.script_words.specs.declared.kind.Kind.TheVariants as kinds
use Rattle.script_words.specs.Pieces.{value}
use Rattle.script_words.specs.Hex.{hex_byte, hex_half}
use Rattle.script_words.specs.Words.{handlers, address_value}
use Rattle.script_words.specs.Keywords.{step_name, eh_name, end_name, plan_kind, owner, state, failfast}
use Rattle.script_words.specs.Faults.{unless_true, number_fault, address_fault, bytes_fault, choice_fault}
use Rattle.script_text.specs.Said.{Said, passes, host_of, is_unit, is_lane, is_id}

-- what may stand at a place of a line
pub data Slot : Type 0 where
  Number : ℕ → ℕ → Slot  -- a number, from the first to the second
  NewHost : Slot  -- the number of a host that no earlier line has
  KnownHost : Slot  -- the number of a host that an earlier line has
  RoomyHost : Slot  -- the same, of a host that has room for one more unit
  Callbacks : Slot  -- the letters of a host's callbacks
  NoAsync : Bool → Slot  -- the flag of a host, which the line has already or not; the line may end here
  NewUnit : Slot  -- an address that no unit of the line's host has
  KnownUnit : Slot  -- the address of a unit of the line's host
  UnitFlags : Bool → Bool → Bool → Slot  -- flags of a unit, of which the line has `ro`, `stopped` and `scan` or not; it may end here
  NewCommand : Slot  -- a command's id that no earlier line has
  KnownLane : Slot  -- a lane of the line's host that has a command
  FailFast : Slot  -- `-` or `failfast`
  Bytes : ℕ → Slot  -- at most so many bytes in hexadecimal digits
  Byte : Slot  -- two hexadecimal digits
  Half : Slot  -- one hexadecimal digit
  Fill : Slot  -- two hexadecimal digits; the line may end here
  AnyFault : Slot  -- the name of a planned fault
  AnyStep : Slot  -- the name of a step
  AnyEh : Slot  -- the name of a step of recovery
  AnyOwner : Slot  -- whom an attempt is given to
  AnyState : Slot  -- the name of a state of a device
  AnyEnd : Slot  -- the name of the script's end

-- what stands behind the first word of a line
abbrev pub slots : Keyword → List Slot
slots lines.HostLine = NewHost ∷ Number 1 1024 ∷ Callbacks ∷ NoAsync false ∷ []
slots lines.LunLine = RoomyHost ∷ NewUnit ∷ Number 1 4294967295 ∷ Number 1 1024 ∷ UnitFlags false false false ∷ []
slots lines.PlanLine = KnownHost ∷ KnownUnit ∷ AnyFault ∷ []
slots lines.CommandLine =
    NewCommand ∷ KnownHost ∷ Number 0 63 ∷ KnownUnit ∷ Number 1 10000 ∷ Number 0 20 ∷ FailFast ∷ Bytes 16 ∷ Fill ∷ []
slots lines.StepLine = KnownHost ∷ AnyStep ∷ []
slots lines.BudgetLine = Number 1 1000000000000000000 ∷ []
slots lines.EndLine = AnyEnd ∷ []

-- what stands behind the numbers of a planned fault
abbrev pub fault_slots : PlanKind → List Slot
fault_slots plans.Latency = Number 1 10000 ∷ []
fault_slots plans.Check = Half ∷ Byte ∷ Byte ∷ []
fault_slots plans.NoSense = Half ∷ Byte ∷ Byte ∷ []
fault_slots plans.Raw = Bytes 252 ∷ []
fault_slots plans.Status = Byte ∷ Byte ∷ []
fault_slots _ = []

abbrev pub some_fault_slots : Option PlanKind → List Slot
some_fault_slots None = []
some_fault_slots (Some kind) = fault_slots kind

-- what stands behind the name of a step
abbrev pub step_slots : Option StepName → List Slot
step_slots (Some names.Submit) = KnownLane ∷ []
step_slots (Some names.Own) = Number 0 last_number ∷ AnyOwner ∷ []
step_slots (Some names.Settle) = Number 0 last_number ∷ []
step_slots (Some names.Drop) = Number 0 last_number ∷ []
step_slots (Some names.Eh) = AnyEh ∷ []
step_slots (Some names.State) = KnownUnit ∷ AnyState ∷ []
step_slots _ = []

abbrev pub or_else : Option Kind → Option Kind → Option Kind
or_else None k = k
or_else (Some j) k = Some j

-- names: their form first, then their range, then what earlier lines say
abbrev pub host_fault : Said → List ℕ → Option Kind
host_fault said word = or_else (number_fault 0 63 word) (unless_true kinds.Unknown (is_some (host_of said.hosts (value word))))

abbrev pub new_host_fault : Said → List ℕ → Option Kind
new_host_fault said word = or_else (number_fault 0 63 word) (unless_true kinds.Twice (not (is_some (host_of said.hosts (value word)))))

abbrev pub roomy_host_fault : Said → List ℕ → Option Kind
roomy_host_fault said word = or_else (host_fault said word) (unless_true kinds.Limit (passes (λ h. nat_lt (length h.luns) 256) (host_of said.hosts (value word))))

abbrev pub new_unit_fault : Option HostSpec → List ℕ → Option Kind
new_unit_fault host word = or_else (address_fault word) (unless_true kinds.Twice (not (is_unit host (address_value word))))

abbrev pub unit_fault : Option HostSpec → List ℕ → Option Kind
unit_fault host word = or_else (address_fault word) (unless_true kinds.Unknown (is_unit host (address_value word)))

abbrev pub new_command_fault : Said → List ℕ → Option Kind
new_command_fault said word = or_else (number_fault 1 4294967295 word) (unless_true kinds.Twice (not (is_id said.ids (value word))))

abbrev pub lane_fault : Option HostSpec → List ℕ → Option Kind
lane_fault host word = or_else (number_fault 0 63 word) (unless_true kinds.Unknown (is_lane host (value word)))

-- the flag of a host: again it is Twice; another word is too many behind it
abbrev pub noasync_fault : Bool → Bool → Option Kind
noasync_fault has true = unless_true kinds.Twice (not has)
noasync_fault true false = Some kinds.Extra
noasync_fault false false = Some kinds.Word

abbrev pub is_read_only : List ℕ → Bool
is_read_only word = bytes_eq word (codes "ro")

abbrev pub is_stopped : List ℕ → Bool
is_stopped word = bytes_eq word (codes "stopped")

abbrev pub is_scan : List ℕ → Bool
is_scan word = bytes_eq word (codes "scan")

-- the flags of a unit: one again is Twice; another word is too many behind all three
abbrev pub unit_flag_fault : Bool → Bool → Bool → List ℕ → Option Kind
unit_flag_fault ro stopped scan word =
    if is_read_only word then unless_true kinds.Twice (not ro)
    else if is_stopped word then unless_true kinds.Twice (not stopped)
    else if is_scan word then unless_true kinds.Twice (not scan)
    else if ro && stopped && scan then Some kinds.Extra
    else Some kinds.Word

-- what is wrong with a word at its place, on a line of this host
abbrev pub slot_fault : Said → Option HostSpec → Slot → List ℕ → Option Kind
slot_fault said host (Number low high) word = number_fault low high word
slot_fault said host NewHost word = new_host_fault said word
slot_fault said host KnownHost word = host_fault said word
slot_fault said host RoomyHost word = roomy_host_fault said word
slot_fault said host Callbacks word = choice_fault kinds.Word handlers word
slot_fault said host (NoAsync has) word = noasync_fault has (bytes_eq word (codes "noasync"))
slot_fault said host NewUnit word = new_unit_fault host word
slot_fault said host KnownUnit word = unit_fault host word
slot_fault said host (UnitFlags ro stopped scan) word = unit_flag_fault ro stopped scan word
slot_fault said host NewCommand word = new_command_fault said word
slot_fault said host KnownLane word = lane_fault host word
slot_fault said host FailFast word = choice_fault kinds.Word failfast word
slot_fault said host (Bytes most) word = bytes_fault most word
slot_fault said host Byte word = choice_fault kinds.Hex hex_byte word
slot_fault said host Half word = choice_fault kinds.Hex hex_half word
slot_fault said host Fill word = choice_fault kinds.Hex hex_byte word
slot_fault said host AnyFault word = choice_fault kinds.Word plan_kind word
slot_fault said host AnyStep word = choice_fault kinds.Word step_name word
slot_fault said host AnyEh word = choice_fault kinds.Word eh_name word
slot_fault said host AnyOwner word = choice_fault kinds.Word owner word
slot_fault said host AnyState word = choice_fault kinds.Word state word
slot_fault said host AnyEnd word = choice_fault kinds.Word end_name word

-- the host of a line, behind a word that names it
abbrev pub named : Said → Option HostSpec → Slot → List ℕ → Option HostSpec
named said host KnownHost word = host_of said.hosts (value word)
named said host RoomyHost word = host_of said.hosts (value word)
named said host _ word = host

-- the places behind a word: a name says what follows it, and behind a flag other flags may stand
abbrev pub behind : Slot → List ℕ → List Slot → List Slot
behind AnyFault word slots = Number 1 65535 ∷ Number 1 65535 ∷ Number 1 65535 ∷ some_fault_slots (plan_kind word)
behind AnyStep word slots = step_slots (step_name word)
behind (NoAsync has) word slots = NoAsync true ∷ []
behind (UnitFlags ro stopped scan) word slots = UnitFlags (ro || is_read_only word) (stopped || is_stopped word) (scan || is_scan word) ∷ []
behind _ word slots = slots

-- the line ends before these places
abbrev pub end_fault : List Slot → Option Kind
end_fault [] = None
end_fault (NoAsync has ∷ slots) = None
end_fault (UnitFlags ro stopped scan ∷ slots) = None
end_fault (Fill ∷ slots) = None
end_fault (_ ∷ slots) = Some kinds.Missing

-- the first wrong word of a line decides
abbrev pub first_fault : Said → Option HostSpec → List Slot → List (List ℕ) → Option Kind
first_fault said host slots [] = end_fault slots
first_fault said host [] (word ∷ rest) = Some kinds.Extra
first_fault said host (slot ∷ slots) (word ∷ rest) =
    or_else (slot_fault said host slot word) (first_fault said (named said host slot word) (behind slot word slots) rest)
