-- What the functions of the reader answer, in the words of the definitions.
use Rattle.std.specs.Prelude.{◌≡◌, ℕ, ◌+◌, Bool, false, ◌||◌, List, [], ◌∷◌, Option, Some, None, Result, Ok, Err}
use Rattle.std.specs.List.{list_any}
use denote.Bor.{Bor}
use Rattle.mid_base.specs.declared.host_spec.HostSpec.{HostSpec}
use Rattle.mid_base.specs.declared.faults.Fault.{Fault}
use Rattle.mid_base.specs.declared.steps.Step.{Step}
use Rattle.mid_base.specs.declared.answers.NoMemory.{NoMemory}
use Rattle.script_words.specs.declared.kind.Kind.{Kind}
use Rattle.script_words.specs.declared.kind.Kind.TheVariants.{Missing, Extra}
use Rattle.script_words.specs.declared.kind.LineFault.{LineFault}
use Rattle.script_words.specs.declared.kind.LineFault.TheVariants as faults
use Rattle.script_words.specs.declared.plan_kinds.PlanKind.{PlanKind}
use Rattle.script_words.specs.declared.plan_kinds.PlanKind.TheVariants as plans
use Rattle.mid_base.specs.declared.faults.Fault.TheVariants as made
use Rattle.script_words.specs.Pieces.{value}
use Rattle.script_text.specs.declared.draft.Draft.{Draft}
use Rattle.script_text.specs.declared.ends.UnitFlags.{UnitFlags}
use Rattle.script_words.specs.Pieces.{words}
use Rattle.script_text.specs.declared.script.Script.{Script}
use Rattle.script_text.specs.declared.script.Bad.{Bad}
use Rattle.script_text.specs.Said.{Said, host_of}
use Rattle.script_text.specs.Script.{judge, at_line, after_line}
use Rattle.script_text.specs.Slots.{Slot, AnyStep, slot_fault, first_fault, fault_slots, unit_flag_fault, is_read_only, is_stopped, is_scan}
use Rattle.script_text.specs.Slots as slots
use Rattle.script_text.specs.Adds.{step_in, fault_of}

-- what a draft holds, without where it lies in memory
abbrev pub seen : Draft → Said
seen d = record { line = d.line; hosts = d.hosts.items; scans = d.scans.items; ids = d.ids.keys; plans = d.plans; steps = d.steps.items; budget = d.budget; ended = d.ended; drain = d.drain }

-- the host that the word at a place of hosts names
abbrev pub HostGives : Said → Slot → Option (Bor (List ℕ)) → Result (Bor HostSpec) Kind → Type 0
HostGives said slot None result = result ≡ Err Missing
HostGives said slot (Some word) (Ok host) =
    (slot_fault said None slot word.now ≡ None) × (host_of said.hosts (value word.now) ≡ Some host.now) × (host.now.no.0 ≡ value word.now)
HostGives said slot (Some word) (Err kind) = slot_fault said None slot word.now ≡ Some kind

-- the words behind the host of a step line
abbrev pub StepGives : Said → HostSpec → List (List ℕ) → Result Step Kind → Type 0
StepGives said host words (Ok step) = (first_fault said (Some host) (AnyStep ∷ []) words ≡ None) × (step ≡ step_in words)
StepGives said host words (Err kind) = first_fault said (Some host) (AnyStep ∷ []) words ≡ Some kind

-- the words that a planned fault of this kind is given
abbrev pub FaultGives : Said → Option HostSpec → PlanKind → List (List ℕ) → Result Fault LineFault → Type 0
FaultGives said host kind words (Ok fault) = (first_fault said host (fault_slots kind) words ≡ None) × (fault ≡ fault_of kind words)
FaultGives said host kind words (Err faults.Memory) = Unit {0}
FaultGives said host kind words (Err (faults.Bad k)) = first_fault said host (fault_slots kind) words ≡ Some k

-- what a line is answered, unless memory ran out
abbrev pub Judges : Said → Result Unit LineFault → Result Said Kind → Type 0
Judges said (Ok u) judged = judged ≡ Ok said
Judges said (Err faults.Memory) judged = Unit {0}
Judges said (Err (faults.Bad k)) judged = judged ≡ Err k

-- no word may follow
abbrev pub EndGives : Option (Bor (List ℕ)) → Result Unit Kind → Type 0
EndGives None result = result ≡ Ok tt
EndGives (Some word) result = result ≡ Err Extra

-- the end of a line, which is read by `read`, where this place comes next
abbrev pub FlagGives : {V : Type 0} → Said → Option HostSpec → Slot → (List (List ℕ) → V) → List (List ℕ) → Result V Kind → Type 0
FlagGives said host slot read words (Ok v) = (first_fault said host (slot ∷ []) words ≡ None) × (v ≡ read words)
FlagGives said host slot read words (Err kind) = first_fault said host (slot ∷ []) words ≡ Some kind

-- one more flag of a unit
abbrev pub FlagsGive : UnitFlags → List ℕ → Result UnitFlags Kind → Type 0
FlagsGive old word (Ok flags) =
    (unit_flag_fault old.read_only old.stopped old.scan word ≡ None) × (flags.read_only ≡ (old.read_only || is_read_only word))
    × (flags.stopped ≡ (old.stopped || is_stopped word)) × (flags.scan ≡ (old.scan || is_scan word))
FlagsGive old word (Err kind) = unit_flag_fault old.read_only old.stopped old.scan word ≡ Some kind

-- all flags of a unit
abbrev pub UnitFlagsGive : Said → Option HostSpec → List (List ℕ) → Result UnitFlags Kind → Type 0
UnitFlagsGive said host words (Ok flags) =
    (first_fault said host (slots.UnitFlags false false false ∷ []) words ≡ None) × (flags.read_only ≡ list_any is_read_only words)
    × (flags.stopped ≡ list_any is_stopped words) × (flags.scan ≡ list_any is_scan words)
UnitFlagsGive said host words (Err kind) = first_fault said host (slots.UnitFlags false false false ∷ []) words ≡ Some kind

-- sense key, additional sense code and its qualifier
abbrev pub CodesGive : Said → Option HostSpec → List (List ℕ) → Result (ℕ × ℕ × ℕ) Kind → Type 0
CodesGive said host words (Ok codes) =
    (first_fault said host (slots.Half ∷ slots.Byte ∷ slots.Byte ∷ []) words ≡ None) × (fault_of plans.Check words ≡ made.Check codes.0 codes.1 codes.2) × (fault_of plans.NoSense words ≡ made.NoSense codes.0 codes.1 codes.2)
CodesGive said host words (Err kind) = first_fault said host (slots.Half ∷ slots.Byte ∷ slots.Byte ∷ []) words ≡ Some kind

-- a fault or a step without further values
abbrev pub LastGives : {V E : Type 0} → (Kind → E) → V → List (List ℕ) → Result V E → Type 0
LastGives wrong v [] result = result ≡ Ok v
LastGives wrong v (word ∷ rest) result = result ≡ Err (wrong Extra)

-- how the lines go on behind one that is bad or not
abbrev pub go_on_unless : Option Bad → Result Script Bad → Result Script Bad
go_on_unless None rest = rest
go_on_unless (Some bad) rest = Err bad

-- a line behind so many others is judged, whatever comes behind it, unless memory ran out
abbrev pub EndsLine : Said → Said → List ℕ → ℕ → Result (Option Bad) NoMemory → Type 0
EndsLine said new line before (Ok bad) =
    (rest : Said → Result Script Bad) → after_line (before + 1) rest (judge (at_line (before + 1) said) (words line)) ≡ go_on_unless bad (rest new)
EndsLine said new line before (Err none) = Unit {0}
