-- The openers of the steps that name their entry, and of Submit.
use Rattle.std.proofs.Common.{◌≡◌, ℕ, ◌==◌, Bool, true, not, cond, List, Option, None, Some, refl, sym, ap, ap₂, ◌∙◌, subst}
use Rattle.std.proofs.lemmas.Bool.{eqb-true, and_parts, not-true}
use Rattle.std.proofs.lemmas.Option.{same_Some}
use Rattle.mid_base.specs.declared.names.CmdId.{CmdId}
use Rattle.mid_base.specs.declared.names.LaneNo.{LaneNo}
use Rattle.mid_base.specs.declared.names.Attempt.{Attempt}
use Rattle.mid_base.specs.declared.names.DevAddr.{DevAddr}
use Rattle.mid_base.specs.declared.answers.Answer.{Answer}
use Rattle.mid_base.specs.declared.answers.By.{By}
use Rattle.mid_base.specs.declared.answers.By.TheVariants.{Answer as ByAnswer, Expiry as ByExpiry}
use Rattle.mid_base.specs.declared.states.DeviceState.{DeviceState}
use Rattle.mid_base.specs.declared.entries.Entry.{Entry}
use Rattle.mid_base.specs.declared.entries.Entry.TheVariants.{Took, Owned, Late, Told, EhBegin, EhEnd, State, Tick}
use Rattle.mid_base.specs.declared.steps.Step.TheVariants.{Submit, Own, Drop, EhBegin as Begin, EhEnd as End, Tick as GoOn, SetState}
use Rattle.mid_base.specs.declared.host_spec.CmdSpec.{CmdSpec}
use Rattle.mid_base.specs.declared.host_spec.HostSpec.{HostSpec}
use Rattle.mid_base.specs.Address.{same_dev}
use Rattle.mid_base.specs.Answers.{no_connect}
use Rattle.device_states.specs.States.{same_state, is_closed}
use Rattle.trace_model.specs.Names.{command, dev_of}
use Rattle.trace_model.specs.Devices.{state}
use Rattle.trace_model.specs.Sending.{next_of_lane, is_command, is_next_of_lane, is_refused}
use Rattle.trace_model.specs.Steps.{opens, same_owner}
use Rattle.trace_model.specs.Rules.{Allowed}
use Rattle.step_laws.proofs.Places.{same_dev_is, same_state_is}

pub command_is : (c d : CmdId) → c.0 ≡ d.0 → c ≡ d
command_is c d e = ap to e
  where
    to : ℕ → CmdId
    to k = record { 0 = k }

pub attempt_is : (n m : Attempt) → n.0 ≡ m.0 → n ≡ m
attempt_is n m e = ap to e
  where
    to : ℕ → Attempt
    to k = record { 0 = k }

owner_is : (x y : By) → same_owner x y ≡ true → x ≡ y
owner_is ByAnswer ByAnswer h = refl
owner_is ByExpiry ByExpiry h = refl
owner_is x y h = cc h

-- ---- steps whose entry says nothing else

owns : (s : HostSpec) (P : List Entry) (n : Attempt) (by : By) (e : Entry) → opens s P (Own n by) e ≡ true → e ≡ Owned n by
owns s P n by (Owned m who) o =
    let parts = and_parts (m.0 == n.0) (same_owner who by) o in
    ap₂ (λ (i : Attempt) (x : By). Owned i x) (attempt_is m n (eqb-true m.0 n.0 parts.0)) (owner_is who by parts.1)
owns s P n by e o = cc o

drops : (s : HostSpec) (P : List Entry) (n : Attempt) (e : Entry) → opens s P (Drop n) e ≡ true → e ≡ Late n
drops s P n (Late m) o = ap (λ (i : Attempt). Late i) (attempt_is m n (eqb-true m.0 n.0 o))
drops s P n e o = cc o

begins : (s : HostSpec) (P : List Entry) (e : Entry) → opens s P Begin e ≡ true → e ≡ EhBegin
begins s P EhBegin o = refl
begins s P e o = cc o

ends : (s : HostSpec) (P : List Entry) (e : Entry) → opens s P End e ≡ true → e ≡ EhEnd
ends s P EhEnd o = refl
ends s P e o = cc o

goes_on : (s : HostSpec) (P : List Entry) (e : Entry) → opens s P GoOn e ≡ true → e ≡ Tick
goes_on s P Tick o = refl
goes_on s P e o = cc o

sets : (s : HostSpec) (P : List Entry) (d : DevAddr) (x : DeviceState) (e : Entry) → opens s P (SetState d x) e ≡ true → e ≡ State d x
sets s P d x (State a y) o =
    let parts = and_parts (same_dev a d) (same_state y x) o in
    ap₂ (λ (i : DevAddr) (z : DeviceState). State i z) (same_dev_is a d parts.0) (same_state_is y x parts.1)
sets s P d x e o = cc o

pub owns_one : (s : HostSpec) (P : List Entry) (n : Attempt) (by : By) (e f : Entry) → opens s P (Own n by) e ≡ true → opens s P (Own n by) f ≡ true → e ≡ f
owns_one s P n by e f o p = owns s P n by e o ∙ sym (owns s P n by f p)

pub drops_one : (s : HostSpec) (P : List Entry) (n : Attempt) (e f : Entry) → opens s P (Drop n) e ≡ true → opens s P (Drop n) f ≡ true → e ≡ f
drops_one s P n e f o p = drops s P n e o ∙ sym (drops s P n f p)

pub begins_one : (s : HostSpec) (P : List Entry) (e f : Entry) → opens s P Begin e ≡ true → opens s P Begin f ≡ true → e ≡ f
begins_one s P e f o p = begins s P e o ∙ sym (begins s P f p)

pub ends_one : (s : HostSpec) (P : List Entry) (e f : Entry) → opens s P End e ≡ true → opens s P End f ≡ true → e ≡ f
ends_one s P e f o p = ends s P e o ∙ sym (ends s P f p)

pub ticks_one : (s : HostSpec) (P : List Entry) (e f : Entry) → opens s P GoOn e ≡ true → opens s P GoOn f ≡ true → e ≡ f
ticks_one s P e f o p = goes_on s P e o ∙ sym (goes_on s P f p)

pub sets_one : (s : HostSpec) (P : List Entry) (d : DevAddr) (x : DeviceState) (e f : Entry) → opens s P (SetState d x) e ≡ true → opens s P (SetState d x) f ≡ true → e ≡ f
sets_one s P d x e f o p = sets s P d x e o ∙ sym (sets s P d x f p)

-- ---- Submit: the first of its lane, by its device's state

abbrev handed : HostSpec → List Entry → CmdId → Entry
handed s P c = cond (is_closed (state s (dev_of s c.0) P)) (Told c no_connect) (Took c)

submits : (s : HostSpec) (P : List Entry) (lane : LaneNo) (e : Entry) → opens s P (Submit lane) e ≡ true → Allowed s P e
    → (c : CmdId) × (is_command c.0 (next_of_lane s P lane.0) ≡ true) × (e ≡ handed s P c)
submits s P lane (Took c) o al =
    let parts = and_parts (is_next_of_lane s P c.0) (not (is_closed (state s (dev_of s c.0) P))) al in (
      c,
      subst (λ (l : ℕ). is_command c.0 (next_of_lane s P l) ≡ true) (eqb-true (command s c.0).lane.0 lane.0 o) parts.0,
      ap (λ (u : Bool). cond u (Told c no_connect) (Took c)) (sym (not-true _ parts.1)),
    )
submits s P lane (Told c a) o al =
    let two = and_parts ((command s c.0).lane.0 == lane.0) (is_refused s P c.0) o in
    let parts = and_parts (is_next_of_lane s P c.0) (is_closed (state s (dev_of s c.0) P)) two.1 in
    let said : Some no_connect ≡ Some a = rw two.1 at al in (
      c,
      subst (λ (l : ℕ). is_command c.0 (next_of_lane s P l) ≡ true) (eqb-true (command s c.0).lane.0 lane.0 two.0) parts.0,
      ap (λ (x : Answer). Told c x) (sym (same_Some no_connect a said)) ∙ ap (λ (u : Bool). cond u (Told c no_connect) (Took c)) (sym parts.1),
    )
submits s P lane e o al = cc o

one_command : (c d : ℕ) (o : Option CmdSpec) → is_command c o ≡ true → is_command d o ≡ true → c ≡ d
one_command c d None x y = cc x
one_command c d (Some k) x y = sym (eqb-true k.id.0 c x) ∙ eqb-true k.id.0 d y

pub submits_one : (s : HostSpec) (P : List Entry) (lane : LaneNo) (e f : Entry) → opens s P (Submit lane) e ≡ true → Allowed s P e → opens s P (Submit lane) f ≡ true → Allowed s P f → e ≡ f
submits_one s P lane e f o x p y =
    let a = submits s P lane e o x in
    let c = submits s P lane f p y in
    let same : a.0 ≡ c.0 = command_is a.0 c.0 (one_command a.0.0 c.0.0 (next_of_lane s P lane.0) a.1 c.1) in
    a.2 ∙ (ap (handed s P) same ∙ sym c.2)
