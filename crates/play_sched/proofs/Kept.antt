-- What is over stays so: a lane that is handed in, and devices that run.
use Rattle.std.proofs.Common.{◌≡◌, ℕ, ◌<◌, Bool, true, false, not, ◌&&◌, ◌==◌, List, [], ◌∷◌, Option, None, Some, refl, sym, ap, ◌∙◌, subst, inl, inr, ⊎_elim, arith}
use Rattle.std.specs.Prelude.{find}
use Rattle.std.specs.List.{list_all}
use Rattle.std.proofs.lemmas.Bool.{cases_Bool}
use Rattle.mid_base.specs.declared.names.DevAddr.{DevAddr}
use Rattle.mid_base.specs.declared.entries.Entry.{Entry}
use Rattle.mid_base.specs.declared.entries.Entry.TheVariants.{Took, Sent, Bounced, Again, Told, Offline, State}
use Rattle.mid_base.specs.declared.states.DeviceState.{DeviceState}
use Rattle.mid_base.specs.declared.states.DeviceState.TheVariants.{Running}
use Rattle.mid_base.specs.declared.steps.Step.{Step}
use Rattle.mid_base.specs.declared.steps.Step.TheVariants.{SetState}
use Rattle.mid_base.specs.declared.host_spec.CmdSpec.{CmdSpec}
use Rattle.mid_base.specs.declared.host_spec.LunSpec.{LunSpec}
use Rattle.mid_base.specs.declared.host_spec.HostSpec.{HostSpec}
use Rattle.mid_base.specs.Address.{same_dev}
use Rattle.trace_model.specs.Commands.{standing, is_new}
use Rattle.trace_model.specs.Devices.{state}
use Rattle.trace_model.specs.Legal.{onto}
use Rattle.trace_model.specs.Sending.{is_left, next_of_lane}
use Rattle.drain_rounds.specs.Rounds.{earlier, first_stopped, is_stopped}
use Rattle.mid_core.specs.Steps.{may_enter}
use Rattle.play_sched.specs.Rest.{IsAwake, IsHandedInBelow, stops_none}

-- none passes a test that passes no more than another
none_less : {A : Type 0} → (p q : A → Bool) (xs : List A) → ((x : A) → q x ≡ true → p x ≡ true) → find p xs ≡ None → find q xs ≡ None
none_less p q [] less h = refl
none_less p q (x ∷ xs) less h = elim (cases_Bool (q x)) [
  | inl passes ↦ absurd (let is : Some x ≡ None = rw (less x passes) at h in cc is)
  | inr fails ↦ elim (cases_Bool (p x)) [
    | inl passes ↦ absurd (let is : Some x ≡ None = rw passes at h in cc is)
    | inr not ↦ let rest : find p xs ≡ None = rw not at h in rw fails (none_less p q xs less rest)
  ]
]

new_before : (c : ℕ) (e : Entry) (P : List Entry) → is_new (standing c (e ∷ P)) ≡ true → is_new (standing c P) ≡ true
new_before c (Took d) P h = elim (cases_Bool (d.0 == c)) [ inl is ↦ absurd (let fails : false ≡ true = rw is at h in cc fails) | inr isnt ↦ rw isnt at h ]
new_before c (Sent d n t) P h = elim (cases_Bool (d.0 == c)) [ inl is ↦ absurd (let fails : false ≡ true = rw is at h in cc fails) | inr isnt ↦ rw isnt at h ]
new_before c (Bounced d n why) P h = elim (cases_Bool (d.0 == c)) [ inl is ↦ absurd (let fails : false ≡ true = rw is at h in cc fails) | inr isnt ↦ rw isnt at h ]
new_before c (Again d counted) P h = elim (cases_Bool (d.0 == c)) [ inl is ↦ absurd (let fails : false ≡ true = rw is at h in cc fails) | inr isnt ↦ rw isnt at h ]
new_before c (Told d a) P h = elim (cases_Bool (d.0 == c)) [ inl is ↦ absurd (let fails : false ≡ true = rw is at h in cc fails) | inr isnt ↦ rw isnt at h ]
new_before c e P h = h

left_before : (lane : ℕ) (e : Entry) (P : List Entry) (k : CmdSpec) → is_left lane (e ∷ P) k ≡ true → is_left lane P k ≡ true
left_before lane e P k h = elim (cases_Bool (k.lane.0 == lane)) [
  | inl is ↦ rw is (new_before k.id.0 e P (rw is at h))
  | inr isnt ↦ absurd (let fails : false ≡ true = rw isnt at h in cc fails)
]

lane_stays : (s : HostSpec) (lane : ℕ) (g P : List Entry) → next_of_lane s P lane ≡ None → next_of_lane s (onto g P) lane ≡ None
lane_stays s lane [] P h = h
lane_stays s lane (e ∷ g) P h = lane_stays s lane g (e ∷ P) (none_less (is_left lane P) (is_left lane (e ∷ P)) s.cmds (left_before lane e P) h)

pub handed_stays : (s : HostSpec) (n : ℕ) (g P : List Entry) → IsHandedInBelow n s P → IsHandedInBelow n s (onto g P)
handed_stays s n g P h lane lt = lane_stays s lane g P (h lane lt)

-- a step that stops fails device sets none to a state in which it is stopped
set_runs : (d : DevAddr) (x : DeviceState) (e : DevAddr) (y : DeviceState) → stops_none (SetState d x) ≡ true → may_enter (SetState d x) (State e y) ≡ true → is_stopped y ≡ false
set_runs d x e y none may = grind arith

enters_runs : (t : Step) (e : DevAddr) (y : DeviceState) → stops_none t ≡ true → may_enter t (State e y) ≡ true → is_stopped y ≡ false
enters_runs (SetState d x) e y none may = set_runs d x e y none may
enters_runs t e y none may = absurd (cc may)

stopped_before : (s : HostSpec) (t : Step) (d : DevAddr) (e : Entry) (P : List Entry) → stops_none t ≡ true → may_enter t e ≡ true
    → is_stopped (state s d (e ∷ P)) ≡ true → is_stopped (state s d P) ≡ true
stopped_before s t d (State e y) P none may h = elim (cases_Bool (same_dev e d)) [
  | inl is ↦ absurd (let passes : is_stopped y ≡ true = rw is at h in cc (sym (enters_runs t e y none may) ∙ passes))
  | inr isnt ↦ rw isnt at h
]
stopped_before s t d (Offline e) P none may h = elim (cases_Bool (same_dev e d)) [
  | inl is ↦ absurd (let fails : false ≡ true = rw is at h in cc fails)
  | inr isnt ↦ rw isnt at h
]
stopped_before s t d e P none may h = h

none_stopped : (s : HostSpec) (e : Entry) (P : List Entry) → ((d : DevAddr) → is_stopped (state s d (e ∷ P)) ≡ true → is_stopped (state s d P) ≡ true)
    → (luns : List LunSpec) → first_stopped s P luns ≡ None → first_stopped s (e ∷ P) luns ≡ None
none_stopped s e P less [] h = refl
none_stopped s e P less (l ∷ luns) h = elim (cases_Bool (is_stopped (state s l.dev P))) [
  | inl passes ↦ absurd (let some : Some (earlier l.dev (first_stopped s P luns)) ≡ None = rw passes at h in cc some)
  | inr fails ↦
      let isnt : is_stopped (state s l.dev (e ∷ P)) ≡ false = not_true (is_stopped (state s l.dev (e ∷ P))) (λ passes. cc (sym fails ∙ less l.dev passes)) in
      rw isnt (none_stopped s e P less luns (rw fails at h))
]
  where
    not_true : (x : Bool) → (x ≡ true → ⊥) → x ≡ false
    not_true true n = absurd (n refl)
    not_true false n = refl

pub awake_stays : (s : HostSpec) (t : Step) (g P : List Entry) → stops_none t ≡ true → list_all (may_enter t) g ≡ true → IsAwake s P → IsAwake s (onto g P)
awake_stays s t [] P none may h = h
awake_stays s t (e ∷ g) P none may h = elim (cases_Bool (may_enter t e)) [
  | inl passes ↦ awake_stays s t g (e ∷ P) none (rw passes at may) (none_stopped s e P (λ d. stopped_before s t d e P none passes) s.luns h)
  | inr fails ↦ absurd (let never : false ≡ true = rw fails at may in cc never)
]
