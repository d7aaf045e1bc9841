-- What the words of a line without a fault are like, each at its place.
use Rattle.std.proofs.Common.{◌≡◌, ℕ, ◌<◌, ◌≤◌, sym, subst, lit<, Bool, true, false, not, List, [], ◌∷◌, Option, Some, None, unwrap_or, refl, arith}
use Rattle.std.proofs.lemmas.Bool.{leb-true, and_parts}
use Rattle.std.specs.Prelude.{◌^◌, ◌-◌, nat_le, nat_lt, length, is_some}
use Rattle.mid_base.specs.Bytes.{cdb_list}
use Rattle.mid_base.specs.Limits.{is_between, is_address, last_number}
use Rattle.mid_base.specs.declared.host_spec.HostSpec.{HostSpec}
use Rattle.script_words.specs.declared.kind.Kind.{Kind}
use Rattle.script_words.specs.declared.kind.Kind.TheVariants as kinds
use Rattle.script_words.specs.declared.keywords.StepName.{StepName}
use Rattle.script_words.specs.declared.keywords.StepName.TheVariants as names
use Rattle.script_words.specs.declared.keywords.EhName.{EhName}
use Rattle.script_words.specs.declared.keywords.EhName.TheVariants as recovery
use Rattle.script_words.specs.Pieces.{number, value}
use Rattle.script_words.specs.Words.{address, address_value}
use Rattle.script_words.specs.Hex.{hex_bytes, bytes_value, cdb_of}
use Rattle.script_words.specs.Keywords.{step_name, eh_name}
use Rattle.script_words.specs.Faults.{unless_true, form_and_range, number_fault, address_fault, bytes_fault}
use Rattle.script_text.specs.Said.{Said, passes, host_of, is_unit, is_lane, is_id}
use Rattle.script_text.specs.Slots.{Slot, AnyStep, or_else, host_fault, new_host_fault, roomy_host_fault, new_unit_fault, unit_fault, new_command_fault, lane_fault, slot_fault, named, behind, end_fault, first_fault, step_slots}
use Rattle.script_text.specs.Adds.{eh_step, step_of, step_in}
use Rattle.script_text.specs.Playable.{IsStepOn, IsStepOnSome}
use Rattle.script_words.proofs.Packed.{cdb_read}
use Rattle.script_text.proofs.Grown.{true_not}

pub none_unless : (kind : Kind) (b : Bool) → unless_true kind b ≡ None → b ≡ true
none_unless kind true e = refl
none_unless kind false e = absurd (cc)

pub none_of_both : (a b : Option Kind) → or_else a b ≡ None → (a ≡ None) × (b ≡ None)
none_of_both None b e = (refl, e)
none_of_both (Some k) b e = absurd (cc)

passed : {V : Type 0} (form : Kind) (test : V → Bool) (o : Option V) (d : V) → form_and_range form test o ≡ None → test (unwrap_or o d) ≡ true
passed form test None d e = absurd (cc)
passed form test (Some v) d e = none_unless kinds.Limit (test v) e

-- each word at its place without a fault, and no place left where a word has to stand
abbrev pub Fits : Said → Option HostSpec → List Slot → List (List ℕ) → Type 0
Fits said host slots [] = end_fault slots ≡ None
Fits said host [] (word ∷ rest) = ⊥
Fits said host (slot ∷ slots) (word ∷ rest) = (slot_fault said host slot word ≡ None) × Fits said (named said host slot word) (behind slot word slots) rest

pub fits : (said : Said) (host : Option HostSpec) (slots : List Slot) (words : List (List ℕ)) → first_fault said host slots words ≡ None → Fits said host slots words
fits said host slots [] e = e
fits said host [] (word ∷ rest) e = absurd (cc)
fits said host (slot ∷ slots) (word ∷ rest) e =
    let both = none_of_both (slot_fault said host slot word) (first_fault said (named said host slot word) (behind slot word slots) rest) e in
    (both.0, fits said (named said host slot word) (behind slot word slots) rest both.1)

-- what is known of a good number
pub number_fits : (low high : ℕ) (word : List ℕ) → number_fault low high word ≡ None → is_between low high (value word) ≡ true
number_fits low high word e = passed kinds.Number (is_between low high) (number word) 0 e

pub number_below : (low high : ℕ) (word : List ℕ) → number_fault low high word ≡ None → nat_le (value word) high ≡ true
number_below low high word e = (and_parts (nat_le low (value word)) (nat_le (value word) high) (number_fits low high word e)).1

pub address_fits : (word : List ℕ) → address_fault word ≡ None → is_address (address_value word) ≡ true
address_fits word e = passed kinds.Number is_address (address word) (record { channel = 0; target = 0; lun = 0 }) e

-- what is known of good names
not_some : (o : Option HostSpec) → not (is_some o) ≡ true → o ≡ None
not_some None e = refl
not_some (Some h) e = absurd (cc)

pub new_host_fits : (said : Said) (word : List ℕ) → new_host_fault said word ≡ None → host_of said.hosts (value word) ≡ None
new_host_fits said word e =
    not_some (host_of said.hosts (value word))
    (none_unless kinds.Twice (not (is_some (host_of said.hosts (value word)))) (none_of_both (number_fault 0 63 word) (unless_true kinds.Twice (not (is_some (host_of said.hosts (value word))))) e).1)

pub host_fits : (said : Said) (word : List ℕ) → host_fault said word ≡ None → is_some (host_of said.hosts (value word)) ≡ true
host_fits said word e =
    none_unless kinds.Unknown (is_some (host_of said.hosts (value word))) (none_of_both (number_fault 0 63 word) (unless_true kinds.Unknown (is_some (host_of said.hosts (value word)))) e).1

abbrev has_room : HostSpec → Bool
has_room h = nat_lt (length h.luns) 256

pub roomy_fits : (said : Said) (word : List ℕ) → roomy_host_fault said word ≡ None → passes (λ h. nat_lt (length h.luns) 256) (host_of said.hosts (value word)) ≡ true
roomy_fits said word e =
    none_unless kinds.Limit (passes has_room (host_of said.hosts (value word)))
    (none_of_both (host_fault said word) (unless_true kinds.Limit (passes has_room (host_of said.hosts (value word)))) e).1

pub new_unit_fits : (host : Option HostSpec) (word : List ℕ) → new_unit_fault host word ≡ None → (is_address (address_value word) ≡ true) × (is_unit host (address_value word) ≡ false)
new_unit_fits host word e =
    let both = none_of_both (address_fault word) (unless_true kinds.Twice (not (is_unit host (address_value word)))) e in
    (address_fits word both.0, true_not (is_unit host (address_value word)) (none_unless kinds.Twice (not (is_unit host (address_value word))) both.1))

pub unit_fits : (host : Option HostSpec) (word : List ℕ) → unit_fault host word ≡ None → is_unit host (address_value word) ≡ true
unit_fits host word e =
    none_unless kinds.Unknown (is_unit host (address_value word)) (none_of_both (address_fault word) (unless_true kinds.Unknown (is_unit host (address_value word))) e).1

pub new_command_fits : (said : Said) (word : List ℕ) → new_command_fault said word ≡ None → (is_between 1 4294967295 (value word) ≡ true) × (is_id said.ids (value word) ≡ false)
new_command_fits said word e =
    let both = none_of_both (number_fault 1 4294967295 word) (unless_true kinds.Twice (not (is_id said.ids (value word)))) e in
    (number_fits 1 4294967295 word both.0, true_not (is_id said.ids (value word)) (none_unless kinds.Twice (not (is_id said.ids (value word))) both.1))

pub lane_fits : (host : Option HostSpec) (word : List ℕ) → lane_fault host word ≡ None → is_lane host (value word) ≡ true
lane_fits host word e =
    none_unless kinds.Unknown (is_lane host (value word)) (none_of_both (number_fault 0 63 word) (unless_true kinds.Unknown (is_lane host (value word))) e).1

-- the block of a command has 1 to 16 bytes
pub block_fits : (word : List ℕ) → bytes_fault 16 word ≡ None → is_between 1 16 (length (cdb_list (cdb_of (bytes_value word)))) ≡ true
block_fits word e =
    let within : is_between 1 16 (length (bytes_value word)) ≡ true = passed kinds.Hex (λ (b : List ℕ). is_between 1 16 (length b)) (hex_bytes word) [] e in
    let few : length (bytes_value word) ≤ 16 = leb-true (length (bytes_value word)) 16 (and_parts (nat_le 1 (length (bytes_value word))) (nat_le (length (bytes_value word)) 16) within).1 in
    subst (λ (b : List ℕ). is_between 1 16 (length b) ≡ true) (sym (cdb_read (bytes_value word) few)) within

-- a step that is named without a fault
below : (n m : ℕ) → nat_le n (m - 1) ≡ true → 0 < m → n < m
below n m e some = omega (arith, leb-true n (m - 1) e)

attempt_fits : (word : List ℕ) → number_fault 0 last_number word ≡ None → value word < 2 ^ 60
attempt_fits word e = below (value word) (2 ^ 60) (number_below 0 last_number word e) (lit< tt)

eh_is_on : (h : HostSpec) (name : EhName) → IsStepOn h (eh_step name)
unfolding eh_step
eh_is_on h recovery.Begin = tt
eh_is_on h recovery.Act = tt
eh_is_on h recovery.Flush = tt
eh_is_on h recovery.End = tt

step_of_fits : (name : Option StepName) (said : Said) (h : HostSpec) (rest : List (List ℕ)) → unless_true kinds.Word (is_some name) ≡ None → Fits said (Some h) (step_slots name) rest → IsStepOn h (step_of name rest)
step_of_fits None said h rest e f = absurd (cc)
step_of_fits (Some names.Submit) said h [] e f = absurd (cc)
step_of_fits (Some names.Submit) said h (lane ∷ rest) e f = lane_fits (Some h) lane f.0
step_of_fits (Some names.Send) said h rest e f = tt
step_of_fits (Some names.Work) said h rest e f = tt
step_of_fits (Some names.Due) said h rest e f = tt
step_of_fits (Some names.Own) said h [] e f = absurd (cc)
step_of_fits (Some names.Own) said h (attempt ∷ []) e f = absurd (let g = f.1 in cc g)
step_of_fits (Some names.Own) said h (attempt ∷ owner ∷ rest) e f = attempt_fits attempt f.0
step_of_fits (Some names.Settle) said h [] e f = absurd (cc)
step_of_fits (Some names.Settle) said h (attempt ∷ rest) e f = attempt_fits attempt f.0
step_of_fits (Some names.Drop) said h [] e f = absurd (cc)
step_of_fits (Some names.Drop) said h (attempt ∷ rest) e f = attempt_fits attempt f.0
step_of_fits (Some names.Abort) said h rest e f = tt
step_of_fits (Some names.Eh) said h [] e f = absurd (cc)
step_of_fits (Some names.Eh) said h (name ∷ rest) e f = eh_is_on h (unwrap_or (eh_name name) recovery.Begin)
step_of_fits (Some names.Tick) said h rest e f = tt
step_of_fits (Some names.State) said h [] e f = absurd (cc)
step_of_fits (Some names.State) said h (unit ∷ []) e f = absurd (let g = f.1 in cc g)
step_of_fits (Some names.State) said h (unit ∷ state ∷ rest) e f = unit_fits (Some h) unit f.0

pub step_fits : (said : Said) (host : Option HostSpec) (words : List (List ℕ)) → is_some host ≡ true → Fits said host (AnyStep ∷ []) words → IsStepOnSome host (step_in words)
step_fits said None words some f = absurd (cc)
step_fits said (Some h) [] some f = absurd (cc)
step_fits said (Some h) (word ∷ rest) some f = step_of_fits (step_name word) said h rest f.0 f.1
