-- The rounds in which a host is run on until nothing is left to do. P, Q and R have the newest entry first.
use Rattle.std.specs.Prelude.{◌≡◌, ℕ, zero, suc, Bool, true, false, List, [], ◌∷◌, ◌++◌, Option, None, Some, is_none, if◌then◌else◌, find, map, max, nat_lt}
use Rattle.std.specs.List.{list_all}
use Rattle.mid_base.specs.declared.names.DevAddr.{DevAddr}
use Rattle.mid_base.specs.declared.names.Attempt.{Attempt}
use Rattle.mid_base.specs.declared.answers.By.TheVariants.{Answer as ByAnswer, Expiry as ByExpiry}
use Rattle.mid_base.specs.declared.entries.Entry.{Entry}
use Rattle.mid_base.specs.declared.entries.Entry.TheVariants.{Sent, Ready, Owned}
use Rattle.mid_base.specs.declared.states.DeviceState.{DeviceState}
use Rattle.mid_base.specs.declared.states.DeviceState.TheVariants.{Running, Quiesce, Block}
use Rattle.mid_base.specs.declared.steps.Step.{Step}
use Rattle.mid_base.specs.declared.steps.Step.TheVariants as step
use Rattle.mid_base.specs.declared.steps.Why.{Why}
use Rattle.mid_base.specs.declared.host_spec.LunSpec.{LunSpec}
use Rattle.mid_base.specs.declared.host_spec.HostSpec.{HostSpec}
use Rattle.host_template.specs.Standing.{Before}
use Rattle.disposition.specs.Ladder.{address}
use Rattle.trace_model.specs.Devices.{state}
use Rattle.trace_model.specs.Drained.{is_done}
use Rattle.trace_model.specs.Steps.{barred}
use Rattle.drain_rounds.specs.Making.{IsDueAfter, Makes, Comes}

-- the steps that a phase of a round tries, the first first
abbrev pub Phase : Type 0
Phase = HostSpec → List Entry → List Step

-- which of them comes next: the first that nothing bars
abbrev pub named : Phase → HostSpec → Bool → List Entry → Option Step
named f s due P = find (λ step. is_none (barred s due P step)) (f s P)

-- 0 up to n, without n
abbrev pub numbers_to : ℕ → List ℕ
numbers_to zero = []
numbers_to (suc n) = numbers_to n ++ n ∷ []

abbrev pub greatest : List ℕ → ℕ
greatest [] = 0
greatest (n ∷ ns) = max n (greatest ns)

-- the greatest number of an attempt that was sent, answered or owned
abbrev pub last_named : List Entry → ℕ
last_named [] = 0
last_named (Sent c n t ∷ P) = max n.0 (last_named P)
last_named (Ready n a ∷ P) = max n.0 (last_named P)
last_named (Owned n by ∷ P) = max n.0 (last_named P)
last_named (_ ∷ P) = last_named P

-- a step of each attempt, in ascending numbers
abbrev pub for_each : (Attempt → Step) → Phase
for_each make s P = map (λ n. make (record { 0 = n })) (numbers_to (suc (last_named P)))

abbrev pub is_stopped : DeviceState → Bool
is_stopped Quiesce = true
is_stopped Block = true
is_stopped _ = false

-- the one of two devices that comes first in address order
abbrev pub earlier : DevAddr → Option DevAddr → DevAddr
earlier d None = d
earlier d (Some e) = if nat_lt (address e) (address d) then e else d

-- the first of these units, in address order, that is stopped
abbrev pub first_stopped : HostSpec → List Entry → List LunSpec → Option DevAddr
first_stopped s P [] = None
first_stopped s P (l ∷ luns) = if is_stopped (state s l.dev P) then Some (earlier l.dev (first_stopped s P luns)) else first_stopped s P luns

abbrev pub run_on : Option DevAddr → List Step
run_on None = []
run_on (Some d) = step.SetState d Running ∷ []

-- a device that is stopped runs on
abbrev pub wake : Phase
wake s P = run_on (first_stopped s P s.luns)

-- each lane is handed in
abbrev pub hand_in : Phase
hand_in s P = map (λ lane. step.Submit (record { 0 = lane })) (numbers_to 64)

abbrev pub alone : Step → Phase
alone step s P = step ∷ []

abbrev pub claim_answers : Phase
claim_answers = for_each (λ n. step.Own n ByAnswer)

abbrev pub claim_expiries : Phase
claim_expiries = for_each (λ n. step.Own n ByExpiry)

-- answers come before expiries of the same tick, and recovery after both
abbrev pub phases : List Phase
phases =
    wake ∷ hand_in ∷ alone step.Send ∷ alone step.Work ∷ claim_answers ∷ alone step.Due ∷ alone step.Work ∷ claim_answers
    ∷ claim_expiries ∷ for_each step.Settle ∷ for_each step.Drop ∷ alone step.Abort ∷ alone step.EhBegin ∷ alone step.EhAct
    ∷ alone step.EhFlush ∷ alone step.EhEnd ∷ []

-- the steps that a phase names, one after the other
abbrev pub MakesEach : Phase → HostSpec → Before → List Step → List Entry → List Entry → Type 0
MakesEach f s b [] P Q = Q ≡ P
MakesEach f s b (t ∷ ts) P Q = (due : Bool) × (R : List Entry) × IsDueAfter s b P due × (named f s due P ≡ Some t) × Makes s b due P t R × MakesEach f s b ts R Q

abbrev pub NamesNone : Phase → HostSpec → Before → List Entry → Type 0
NamesNone f s b Q = (due : Bool) → IsDueAfter s b Q due → named f s due Q ≡ None

-- a phase goes on until it names no step
pub record Exhausts (f : Phase) (s : HostSpec) (b : Before) (P Q : List Entry) : Type 0 where
  pub steps : List Step
  pub made : MakesEach f s b steps P Q
  pub done : NamesNone f s b Q

abbrev pub Passes : List Phase → HostSpec → Before → List Entry → List Entry → Type 0
Passes [] s b P Q = Q ≡ P
Passes (f ∷ fs) s b P Q = (R : List Entry) × Exhausts f s b P R × Passes fs s b R Q

abbrev pub is_drained : HostSpec → List Entry → Bool
is_drained s P = list_all (is_done P) s.cmds

-- time goes on where the host isn't drained and nothing bars it
abbrev pub PassesTime : Bool → HostSpec → Before → List Entry → List Entry → Type 0
PassesTime true s b P Q = Q ≡ P
PassesTime false s b P Q = (why : Option Why) × Comes s b P step.Tick why Q

-- one phase after the other, each on what the one before left, and then time
abbrev pub Round : HostSpec → Before → List Entry → List Entry → Type 0
Round s b P Q = (R : List Entry) × Passes phases s b P R × PassesTime (is_drained s R) s b R Q

abbrev pub Where : Bool → Type 0 → Type 0 → Type 0
Where true A B = A
Where false A B = B

-- at most so many rounds, until the host is drained
abbrev pub Drains : ℕ → HostSpec → Before → List Entry → List Entry → Type 0
Drains zero s b P Q = Q ≡ P
Drains (suc most) s b P Q = Where (is_drained s P) (Q ≡ P) ((R : List Entry) × Round s b P R × Drains most s b R Q)
