-- The steps for which no rule of a whole journal is needed.
use Rattle.std.proofs.Common.{eq-eqb, ◌≡◌, ◌⊎◌, ℕ, suc, zero, ◌<◌, ◌≤◌, ◌==◌, Bool, true, false, not, ◌&&◌, ◌||◌, List, [], ◌∷◌, filter, map, refl, sym, ◌∙◌, subst, inl, inr, ⊎_elim, arith, nat_le, nat_lt, lt-ltb, le-leb, leb-true, ltb-true}
use Rattle.std.specs.List.{list_any, list_all}
use Rattle.std.proofs.lemmas.Bool.{eqb-true, cases_Bool, and_parts, and_from, not-true, not-false, or_right, or_left, or_parts, or_from, or_cases, not_from_false}
use Rattle.std.proofs.lemmas.Bool.Decides.{eqb_tells, leb_tells}
use Rattle.mid_base.specs.declared.names.Attempt.{Attempt}
use Rattle.mid_base.specs.declared.names.DevAddr.{DevAddr}
use Rattle.mid_base.specs.declared.answers.By.{By}
use Rattle.mid_base.specs.declared.answers.By.TheVariants.{Answer as ByAnswer, Expiry as ByExpiry}
use Rattle.mid_base.specs.declared.states.DeviceState.{DeviceState}
use Rattle.mid_base.specs.declared.entries.Entry.{Entry}
use Rattle.mid_base.specs.declared.entries.Entry.TheVariants.{Sent, Bounced, Ready, Due, Longer, DoneSaid, Owned, Late, Aborted, EhBegin, EhEnd, State, Tick}
use Rattle.mid_base.specs.declared.steps.Step.TheVariants.{Work, Due as AskDue, Own, Drop, Abort, EhBegin as Begin, EhEnd as End, Tick as GoOn, SetState}
use Rattle.mid_base.specs.declared.steps.Why.{Why}
use Rattle.mid_base.specs.declared.steps.Why.TheVariants.{NoWork, NoDue, NotOpen, NotReady, NotDue, NotLate, NoAbort, EhRunning, NoFailed, NotQuiet, EhIdle, LadderOpen, FlushLeft, WorkDue, AnswerWaiting, ExpiryWaiting, Spent, Illegal}
use Rattle.mid_base.specs.declared.host_spec.HostSpec.{HostSpec}
use Rattle.mid_base.specs.Address.{same_dev, has_dev}
use Rattle.mid_base.specs.Answers.{no_connect}
use Rattle.mid_base.specs.Past.{ticks, sent_for}
use Rattle.device_states.specs.States.{may_become, same_state}
use Rattle.disposition.specs.declared.todo.Todo.{Todo}
use Rattle.trace_model.specs.Attempts.{attempts, is_open, is_answered, is_due, late, answered}
use Rattle.trace_model.specs.Commands.{aborts}
use Rattle.trace_model.specs.Devices.{state, has_begun}
use Rattle.trace_model.specs.Time.{deadline, is_expired, is_before, may_ask, is_claimed}
use Rattle.trace_model.specs.Judging.{is_first}
use Rattle.trace_model.specs.Recovery.{is_quiet, failed, todo, is_cleared}
use Rattle.trace_model.specs.Flush.{is_empty}
use Rattle.trace_model.specs.Steps.{opens, first_why}
use Rattle.mid_base.specs.Limits.{last_number}
use Rattle.trace_model.specs.Rules.{Allowed}
use Rattle.step_laws.specs.Enabled.{IsEnabled, IsRightlyBarred, bars}
use Rattle.step_laws.proofs.Causes.{passed, passes}
use Rattle.step_laws.proofs.Places.{same_dev_is, same_dev_itself, same_state_is, same_state_itself}

-- Work

pub work : (s : HostSpec) (P : List Entry) → IsRightlyBarred s P Work
work s P due = (
  λ h. (not-false due (passed (not due) NoWork [] refl h).0, record { opener = Ready (record { 0 = 0 }) no_connect; opens_it = refl; may_stand = tt }),
  λ h. passes (not due) NoWork [] (rw h.0 refl) refl,
)

-- Due: the first of those that are expired

abbrev bef : ℕ → ℕ → ℕ → ℕ → Bool
bef a n b m = nat_lt a b || ((a == b) && nat_le n m)

bef_says : (a n b m : ℕ) → bef a n b m ≡ true → (a < b) ⊎ ((a ≡ b) × (n ≤ m))
bef_says a n b m h = ⊎_elim
    (λ l. inl (ltb-true a b l))
    (λ r. let parts = and_parts (a == b) (nat_le n m) r in inr (eqb-true a b parts.0, leb-true n m parts.1))
    (or_cases (nat_lt a b) _ h)

says_bef : (a n b m : ℕ) → (a < b) ⊎ ((a ≡ b) × (n ≤ m)) → bef a n b m ≡ true
says_bef a n b m (inl l) = or_left _ _ (lt-ltb a b l)
says_bef a n b m (inr r) = or_right (nat_lt a b) _ (and_from _ _ (eq-eqb a b r.0) (le-leb n m r.1))

bef_total : (a n b m : ℕ) → (bef a n b m ≡ true) ⊎ (bef b m a n ≡ true)
bef_total a n b m = ⊎_elim
    (λ le. ⊎_elim
    (λ same. ⊎_elim (λ l. inl (says_bef a n b m (inr (same.1, l.1)))) (λ g. inr (says_bef b m a n (inr (sym same.1, omega (arith, g.1))))) (leb_tells n m))
    (λ other. inl (says_bef a n b m (inl (less a b le.1 other.1))))
    (eqb_tells a b))
    (λ gt. inr (says_bef b m a n (inl gt.1)))
    (leb_tells a b)
  where
    less : (a b : ℕ) → a ≤ b → (a ≡ b → ⊥) → a < b
    less a b le ne = omega (arith, le, ne)

bef_trans : (a n b m c k : ℕ) → bef a n b m ≡ true → bef b m c k ≡ true → bef a n c k ≡ true
bef_trans a n b m c k h g = says_bef a n c k (by (bef_says a n b m h) (bef_says b m c k g))
  where
    by : (a < b) ⊎ ((a ≡ b) × (n ≤ m)) → (b < c) ⊎ ((b ≡ c) × (m ≤ k)) → (a < c) ⊎ ((a ≡ c) × (n ≤ k))
    by (inl p) (inl q) = inl (omega (arith, p, q))
    by (inl p) (inr q) = inl (omega (arith, p, q.0))
    by (inr p) (inl q) = inl (omega (arith, p.0, q))
    by (inr p) (inr q) = inr (p.0 ∙ q.0, omega (arith, p.1, q.1))

-- n comes before each of the list that is expired
abbrev leads : HostSpec → List Entry → ℕ → ℕ → Bool
leads s P n m = not (is_expired s P m) || is_before s P n m

all_leads : (s : HostSpec) (P : List Entry) (n m : ℕ) (ns : List ℕ) → is_before s P m n ≡ true → list_all (leads s P n) ns ≡ true → list_all (leads s P m) ns ≡ true
all_leads s P n m [] b h = refl
all_leads s P n m (k ∷ ns) b h =
    let parts = and_parts (leads s P n k) (list_all (leads s P n) ns) h in
    and_from _ _
    (⊎_elim (λ l. or_left _ _ l) (λ r. or_right (not (is_expired s P k)) _ (bef_trans (deadline s P m) m (deadline s P n) n (deadline s P k) k b r)) (or_cases (not (is_expired s P k)) _ parts.0))
    (all_leads s P n m ns b parts.1)

none_leads : (s : HostSpec) (P : List Entry) (n : ℕ) (ns : List ℕ) → list_any (is_expired s P) ns ≡ false → list_all (leads s P n) ns ≡ true
none_leads s P n [] h = refl
none_leads s P n (k ∷ ns) h =
    let parts = or_parts (is_expired s P k) _ h in
    and_from _ _ (or_left (not (is_expired s P k)) (is_before s P n k) (not_from_false _ parts.0)) (none_leads s P n ns parts.1)

first_expired : (s : HostSpec) (P : List Entry) (ns : List ℕ) → list_any (is_expired s P) ns ≡ true → (n : ℕ) × (is_expired s P n ≡ true) × (list_all (leads s P n) ns ≡ true)
first_expired s P [] h = cc h
first_expired s P (k ∷ ns) h = ⊎_elim
    (λ some.
    let found = first_expired s P ns some in
    ⊎_elim
    (λ here. ⊎_elim
    (λ kept. (found.0, found.1, and_from _ _ (or_right (not (is_expired s P k)) _ kept) found.2))
    (λ now. (k, here, and_from _ _ (itself k) (all_leads s P found.0 k ns now found.2)))
    (bef_total (deadline s P found.0) found.0 (deadline s P k) k))
    (λ no. (found.0, found.1, and_from _ _ (or_left (not (is_expired s P k)) (is_before s P found.0 k) (not_from_false _ no)) found.2))
    (cases_Bool (is_expired s P k)))
    (λ none. let here : is_expired s P k ≡ true = ⊎_elim (λ y. y) (λ r. absurd (cc (sym none ∙ r))) (or_cases (is_expired s P k) _ h) in (k, here, and_from _ _ (itself k) (none_leads s P k ns none)))
    (cases_Bool (list_any (is_expired s P) ns))
  where
    itself : (n : ℕ) → leads s P n n ≡ true
    itself n = or_right (not (is_expired s P n)) _ (says_bef (deadline s P n) n (deadline s P n) n (inr (refl, omega arith)))

-- an open attempt is among the attempts
open_sent : (f : ℕ → Bool) (n : ℕ) (P : List Entry) → is_open n P ≡ true → f n ≡ true → list_any f (attempts P) ≡ true
open_sent f n [] o h = cc o
open_sent f n (Sent c m t ∷ P) o h = ⊎_elim
    (λ yes. or_left _ _ (subst (λ (k : ℕ). f k ≡ true) (sym yes.1) h))
    (λ no. or_right (f m.0) _ (open_sent f n P (rw no.0 at o) h))
    (eqb_tells m.0 n)
open_sent f n (Bounced c m why ∷ P) o h = ⊎_elim (λ yes. absurd (cc (rw yes.0 at o))) (λ no. open_sent f n P (rw no.0 at o) h) (eqb_tells m.0 n)
open_sent f n (Owned m by ∷ P) o h = ⊎_elim (λ yes. absurd (cc (rw yes.0 at o))) (λ no. open_sent f n P (rw no.0 at o) h) (eqb_tells m.0 n)
open_sent f n (e ∷ P) o h = open_sent f n P o h

asked : (s : HostSpec) (P : List Entry) (n : ℕ) → may_ask s P n ≡ true → not (list_any (is_expired s P) (attempts P)) ≡ false
asked s P n h =
    let expired : is_expired s P n ≡ true = (and_parts (is_expired s P n) _ h).0 in
    let three = and_parts (is_open n P && nat_le (deadline s P n) (ticks P) && not (is_due n P)) _ expired in
    let two = and_parts (is_open n P && nat_le (deadline s P n) (ticks P)) _ three.0 in
    rw (open_sent (is_expired s P) n P (and_parts (is_open n P) _ two.0).0 expired) refl

due_no : (s : HostSpec) (P : List Entry) (e : Entry) → opens s P AskDue e ≡ true → Allowed s P e → not (list_any (is_expired s P) (attempts P)) ≡ false
due_no s P (Due n) o al = asked s P n.0 al
due_no s P (Longer n) o al = asked s P n.0 al
due_no s P (DoneSaid n) o al = asked s P n.0 al
due_no s P e o al = cc o

due_yes : (s : HostSpec) (P : List Entry) → list_any (is_expired s P) (attempts P) ≡ true → IsEnabled s P AskDue
due_yes s P h =
    let found = first_expired s P (attempts P) h in
    record { opener = Due (record { 0 = found.0 }); opens_it = refl; may_stand = and_from (is_expired s P found.0) _ found.1 found.2 }

pub asks : (s : HostSpec) (P : List Entry) → IsRightlyBarred s P AskDue
asks s P due = (
  λ h. (refl, due_yes s P (not-false _ (passed (not (list_any (is_expired s P) (attempts P))) NoDue [] refl h).0)),
  λ h. passes (not (list_any (is_expired s P) (attempts P))) NoDue [] (due_no s P h.1.opener h.1.opens_it h.1.may_stand) refl,
)

-- Own

own_no_answer : (s : HostSpec) (P : List Entry) (n : Attempt) (e : Entry) → opens s P (Own n ByAnswer) e ≡ true → Allowed s P e → (not (is_open n.0 P) ≡ false) × (not (is_answered n.0 P) ≡ false)
own_no_answer s P n (Owned m ByAnswer) o al =
    let same : m.0 ≡ n.0 = eqb-true m.0 n.0 (and_parts (m.0 == n.0) _ o).0 in
    let parts = and_parts (is_open n.0 P) (is_answered n.0 P) (subst (λ (k : ℕ). is_open k P && is_answered k P ≡ true) same al) in
    (rw parts.0 refl, rw parts.1 refl)
own_no_answer s P n (Owned m ByExpiry) o al = absurd (cc ((and_parts (m.0 == n.0) _ o).1))
own_no_answer s P n e o al = cc o

own_no_expiry : (s : HostSpec) (P : List Entry) (n : Attempt) (e : Entry) → opens s P (Own n ByExpiry) e ≡ true → Allowed s P e → (not (is_open n.0 P) ≡ false) × (not (is_due n.0 P) ≡ false)
own_no_expiry s P n (Owned m ByExpiry) o al =
    let same : m.0 ≡ n.0 = eqb-true m.0 n.0 (and_parts (m.0 == n.0) _ o).0 in
    let parts = and_parts (is_open n.0 P) (is_due n.0 P) (subst (λ (k : ℕ). is_open k P && is_due k P ≡ true) same al) in
    (rw parts.0 refl, rw parts.1 refl)
own_no_expiry s P n (Owned m ByAnswer) o al = absurd (cc ((and_parts (m.0 == n.0) _ o).1))
own_no_expiry s P n e o al = cc o

pub owns : (s : HostSpec) (P : List Entry) (n : Attempt) (by : By) → IsRightlyBarred s P (Own n by)
owns s P n ByAnswer due =
    let later : List (Bool × Why) = (not (is_answered n.0 P), NotReady) ∷ [] in (
      λ h. let x = passed (not (is_open n.0 P)) NotOpen later refl h in
          let y = passed (not (is_answered n.0 P)) NotReady [] refl x.1 in
          (refl, record { opener = Owned n ByAnswer; opens_it = and_from (n.0 == n.0) _ (eq-eqb n.0 n.0 refl) refl; may_stand = and_from _ _ (not-false _ x.0) (not-false _ y.0) }),
      λ h. let x = own_no_answer s P n h.1.opener h.1.opens_it h.1.may_stand in
          passes (not (is_open n.0 P)) NotOpen later x.0 (passes (not (is_answered n.0 P)) NotReady [] x.1 refl),
    )
owns s P n ByExpiry due =
    let later : List (Bool × Why) = (not (is_due n.0 P), NotDue) ∷ [] in (
      λ h. let x = passed (not (is_open n.0 P)) NotOpen later refl h in
          let y = passed (not (is_due n.0 P)) NotDue [] refl x.1 in
          (refl, record { opener = Owned n ByExpiry; opens_it = and_from (n.0 == n.0) _ (eq-eqb n.0 n.0 refl) refl; may_stand = and_from _ _ (not-false _ x.0) (not-false _ y.0) }),
      λ h. let x = own_no_expiry s P n h.1.opener h.1.opens_it h.1.may_stand in
          passes (not (is_open n.0 P)) NotOpen later x.0 (passes (not (is_due n.0 P)) NotDue [] x.1 refl),
    )

-- Drop

positive : (k : ℕ) → (k == 0) ≡ false → nat_lt 0 k ≡ true
positive zero h = cc h
positive (suc k) h = lt-ltb 0 (suc k) (omega arith)

no_zero : (k : ℕ) → nat_lt 0 k ≡ true → (k == 0) ≡ false
no_zero k h = ⊎_elim (λ yes. absurd (omega (arith, ltb-true 0 k h, yes.1))) (λ no. no.0) (eqb_tells k 0)

drop_no : (s : HostSpec) (P : List Entry) (n : Attempt) (e : Entry) → opens s P (Drop n) e ≡ true → Allowed s P e → (late n.0 P == 0) ≡ false
drop_no s P n (Late m) o al = no_zero (late n.0 P) (subst (λ (k : ℕ). nat_lt 0 (late k P) ≡ true) (eqb-true m.0 n.0 o) al)
drop_no s P n e o al = cc o

pub drops : (s : HostSpec) (P : List Entry) (n : Attempt) → IsRightlyBarred s P (Drop n)
drops s P n due = (
  λ h. (refl, record { opener = Late n; opens_it = eq-eqb n.0 n.0 refl; may_stand = positive (late n.0 P) (passed (late n.0 P == 0) NotLate [] refl h).0 }),
  λ h. passes (late n.0 P == 0) NotLate [] (drop_no s P n h.1.opener h.1.opens_it h.1.may_stand) refl,
)

-- Abort

some_first : (ns : List ℕ) → is_empty ns ≡ false → (n : ℕ) × (is_first n ns ≡ true)
some_first [] h = cc h
some_first (n ∷ ns) h = (n, eq-eqb n n refl)

first_some : (n : ℕ) (ns : List ℕ) → is_first n ns ≡ true → is_empty ns ≡ false
first_some n [] h = cc h
first_some n (m ∷ ns) h = refl

abort_no : (s : HostSpec) (P : List Entry) (e : Entry) → opens s P Abort e ≡ true → Allowed s P e → is_empty (aborts P) ≡ false
abort_no s P (Aborted c n ok) o al = first_some n.0 (aborts P) (and_parts (is_first n.0 (aborts P)) _ (and_parts (is_first n.0 (aborts P) && (sent_for n.0 P == c.0)) _ al).0).0
abort_no s P e o al = cc o

abort_yes : (s : HostSpec) (P : List Entry) → is_empty (aborts P) ≡ false → IsEnabled s P Abort
abort_yes s P h =
    let found = some_first (aborts P) h in
    record {
      opener = Aborted (record { 0 = sent_for found.0 P }) (record { 0 = found.0 }) false;
      opens_it = refl;
      may_stand = and_from (is_first found.0 (aborts P) && (sent_for found.0 P == sent_for found.0 P)) _ (and_from (is_first found.0 (aborts P)) _ found.1 (eq-eqb (sent_for found.0 P) (sent_for found.0 P) refl)) refl;
    }

pub aborting : (s : HostSpec) (P : List Entry) → IsRightlyBarred s P Abort
aborting s P due = (
  λ h. (refl, abort_yes s P (passed (is_empty (aborts P)) NoAbort [] refl h).0),
  λ h. passes (is_empty (aborts P)) NoAbort [] (abort_no s P h.1.opener h.1.opens_it h.1.may_stand) refl,
)

-- EhBegin

any_item : {A : Type 0} (xs : List A) → is_empty xs ≡ false → list_any (λ x. true) xs ≡ true
any_item [] h = cc h
any_item (x ∷ xs) h = refl

item_any : {A : Type 0} (xs : List A) → list_any (λ x. true) xs ≡ true → is_empty xs ≡ false
item_any [] h = cc h
item_any (x ∷ xs) h = refl

begin_no : (s : HostSpec) (P : List Entry) (e : Entry) → opens s P Begin e ≡ true → Allowed s P e → (has_begun P ≡ false) × (is_empty (failed P) ≡ false) × (not (is_quiet s P) ≡ false)
begin_no s P EhBegin o al =
    let ab = and_parts (is_quiet s P && not (has_begun P)) _ al in
    let a1 = and_parts (is_quiet s P) _ ab.0 in
    (not-true _ a1.1, item_any (failed P) ab.1, rw a1.0 refl)
begin_no s P e o al = cc o

pub begins : (s : HostSpec) (P : List Entry) → IsRightlyBarred s P Begin
begins s P due =
    let last : List (Bool × Why) = (not (is_quiet s P), NotQuiet) ∷ [] in
    let later : List (Bool × Why) = (is_empty (failed P), NoFailed) ∷ last in (
      λ h. let x = passed (has_begun P) EhRunning later refl h in
          let y = passed (is_empty (failed P)) NoFailed last refl x.1 in
          let z = passed (not (is_quiet s P)) NotQuiet [] refl y.1 in
          (refl, record { opener = EhBegin; opens_it = refl; may_stand = and_from (is_quiet s P && not (has_begun P)) _ (and_from (is_quiet s P) _ (not-false _ z.0) (rw x.0 refl)) (any_item (failed P) y.0) }),
      λ h. let x = begin_no s P h.1.opener h.1.opens_it h.1.may_stand in
          passes (has_begun P) EhRunning later x.0 (passes (is_empty (failed P)) NoFailed last x.1 (passes (not (is_quiet s P)) NotQuiet [] x.2 refl)),
    )

-- EhEnd

pub none_of_none : {A B : Type 0} (f : A → B) (p : B → Bool) (xs : List A) → is_empty xs ≡ true → is_empty (filter p (map f xs)) ≡ true
none_of_none f p [] h = refl
none_of_none f p (x ∷ xs) h = cc h

end_no : (s : HostSpec) (P : List Entry) (e : Entry) → opens s P End e ≡ true → Allowed s P e → (not (has_begun P) ≡ false) × (not (is_empty (todo s P)) ≡ false) × (not (is_empty (failed P)) ≡ false)
end_no s P EhEnd o al =
    let parts = and_parts (has_begun P) (is_empty (failed P)) al in
    (rw parts.0 refl, rw (none_of_none _ (λ (x : Todo). not (is_cleared x.cmd.0 P)) (failed P) parts.1) refl, rw parts.1 refl)
end_no s P e o al = cc o

pub ends : (s : HostSpec) (P : List Entry) → IsRightlyBarred s P End
ends s P due =
    let last : List (Bool × Why) = (not (is_empty (failed P)), FlushLeft) ∷ [] in
    let later : List (Bool × Why) = (not (is_empty (todo s P)), LadderOpen) ∷ last in (
      λ h. let x = passed (not (has_begun P)) EhIdle later refl h in
          let y = passed (not (is_empty (todo s P))) LadderOpen last refl x.1 in
          let z = passed (not (is_empty (failed P))) FlushLeft [] refl y.1 in
          (refl, record { opener = EhEnd; opens_it = refl; may_stand = and_from (has_begun P) _ (not-false _ x.0) (not-false _ z.0) }),
      λ h. let x = end_no s P h.1.opener h.1.opens_it h.1.may_stand in
          passes (not (has_begun P)) EhIdle later x.0 (passes (not (is_empty (todo s P))) LadderOpen last x.1 (passes (not (is_empty (failed P))) FlushLeft [] x.2 refl)),
    )

-- Tick

no_late : (P : List Entry) (ns : List ℕ) → list_any (λ n. nat_lt 0 (late n P)) ns ≡ false → list_all (λ n. late n P == 0) ns ≡ true
no_late P [] h = refl
no_late P (n ∷ ns) h =
    let parts = or_parts (nat_lt 0 (late n P)) _ h in
    and_from _ _ (⊎_elim (λ yes. yes) (λ no. absurd (cc (sym parts.0 ∙ positive (late n P) no))) (cases_Bool (late n P == 0))) (no_late P ns parts.1)

none_late : (P : List Entry) (ns : List ℕ) → list_all (λ n. late n P == 0) ns ≡ true → list_any (λ n. nat_lt 0 (late n P)) ns ≡ false
none_late P [] h = refl
none_late P (n ∷ ns) h =
    let parts = and_parts (late n P == 0) _ h in
    or_from _ _ (⊎_elim (λ yes. absurd (cc (sym (no_zero (late n P) yes) ∙ parts.0))) (λ no. no) (cases_Bool (nat_lt 0 (late n P)))) (none_late P ns parts.1)

one_free : (o a d x : Bool) → o && a ≡ false → x || (o && d) ≡ false → (o && (a || d) ≡ false) × (x ≡ false)
one_free true true d x h g = cc h
one_free true false true true h g = cc g
one_free true false true false h g = cc g
one_free true false false true h g = cc g
one_free true false false false h g = (refl, refl)
one_free false a d true h g = cc g
one_free false a d false h g = (refl, refl)

free_one : (o a d x : Bool) → o && (a || d) ≡ false → x ≡ false → (o && a ≡ false) × (x || (o && d) ≡ false)
free_one o a d true h g = cc g
free_one true true d false h g = cc h
free_one true false true false h g = cc h
free_one true false false false h g = (refl, refl)
free_one false a d false h g = (refl, refl)

abbrev waits_answer : List Entry → ℕ → Bool
waits_answer P n = is_open n P && is_answered n P

abbrev waits_expiry : HostSpec → List Entry → ℕ → Bool
waits_expiry s P n = is_expired s P n || (is_open n P && is_due n P)

all_free : (s : HostSpec) (P : List Entry) (ns : List ℕ) → list_any (waits_answer P) ns ≡ false → list_any (waits_expiry s P) ns ≡ false → (list_any (is_claimed P) ns ≡ false) × (list_any (is_expired s P) ns ≡ false)
all_free s P [] h g = (refl, refl)
all_free s P (n ∷ ns) h g =
    let a = or_parts (waits_answer P n) _ h in
    let b = or_parts (waits_expiry s P n) _ g in
    let here = one_free (is_open n P) (is_answered n P) (is_due n P) (is_expired s P n) a.0 b.0 in
    let rest = all_free s P ns a.1 b.1 in
    (or_from _ _ here.0 rest.0, or_from _ _ here.1 rest.1)

free_all : (s : HostSpec) (P : List Entry) (ns : List ℕ) → list_any (is_claimed P) ns ≡ false → list_any (is_expired s P) ns ≡ false → (list_any (waits_answer P) ns ≡ false) × (list_any (waits_expiry s P) ns ≡ false)
free_all s P [] h g = (refl, refl)
free_all s P (n ∷ ns) h g =
    let a = or_parts (is_claimed P n) _ h in
    let b = or_parts (is_expired s P n) _ g in
    let here = free_one (is_open n P) (is_answered n P) (is_due n P) (is_expired s P n) a.0 b.0 in
    let rest = free_all s P ns a.1 b.1 in
    (or_from _ _ here.0 rest.0, or_from _ _ here.1 rest.1)

abbrev answer_waits : List Entry → Bool
answer_waits P = list_any (λ n. is_open n P && is_answered n P) (attempts P) || list_any (λ n. nat_lt 0 (late n P)) (answered P)

abbrev expiry_waits : HostSpec → List Entry → Bool
expiry_waits s P = list_any (λ n. is_expired s P n || (is_open n P && is_due n P)) (attempts P)

tick_no : (s : HostSpec) (P : List Entry) (e : Entry) → opens s P GoOn e ≡ true → Allowed s P e → (answer_waits P ≡ false) × (expiry_waits s P ≡ false)
tick_no s P Tick o al =
    let ab = and_parts (not (list_any (is_claimed P) (attempts P)) && list_all (λ n. late n P == 0) (answered P)) _ al in
    let a1 = and_parts (not (list_any (is_claimed P) (attempts P))) _ ab.0 in
    let free = free_all s P (attempts P) (not-true _ a1.0) (not-true _ ab.1) in
    (or_from _ _ free.0 (none_late P (answered P) a1.1), free.1)
tick_no s P e o al = cc o

tick_yes : (s : HostSpec) (P : List Entry) → answer_waits P ≡ false → expiry_waits s P ≡ false → IsEnabled s P GoOn
tick_yes s P h g =
    let parts = or_parts (list_any (λ n. is_open n P && is_answered n P) (attempts P)) _ h in
    let free = all_free s P (attempts P) parts.0 g in
    record {
      opener = Tick;
      opens_it = refl;
      may_stand = and_from (not (list_any (is_claimed P) (attempts P)) && list_all (λ n. late n P == 0) (answered P)) _ (and_from (not (list_any (is_claimed P) (attempts P))) _ (rw free.0 refl) (no_late P (answered P) parts.1)) (rw free.1 refl);
    }

spent_is_none : (b : Bool) → bars (first_why ((b, Spent) ∷ [])) ≡ false
spent_is_none true = refl
spent_is_none false = refl

pub goes_on : (s : HostSpec) (P : List Entry) → IsRightlyBarred s P GoOn
goes_on s P due =
    let last : List (Bool × Why) = (nat_le last_number (ticks P), Spent) ∷ [] in
    let third : List (Bool × Why) = (expiry_waits s P, ExpiryWaiting) ∷ last in
    let second : List (Bool × Why) = (answer_waits P, AnswerWaiting) ∷ third in (
      λ h. let x = passed due WorkDue second refl h in
          let y = passed (answer_waits P) AnswerWaiting third refl x.1 in
          let z = passed (expiry_waits s P) ExpiryWaiting last refl y.1 in
          (rw x.0 refl, tick_yes s P y.0 z.0),
      λ h. let x = tick_no s P h.1.opener h.1.opens_it h.1.may_stand in
          passes due WorkDue second (not-true due h.0) (passes (answer_waits P) AnswerWaiting third x.0 (passes (expiry_waits s P) ExpiryWaiting last x.1 (spent_is_none _))),
    )

-- SetState

set_no : (s : HostSpec) (P : List Entry) (d : DevAddr) (x : DeviceState) (e : Entry) → opens s P (SetState d x) e ≡ true → Allowed s P e → (has_begun P ≡ false) × (not (has_dev s.luns d && may_become (state s d P) x) ≡ false)
set_no s P d x (State f y) o al =
    let same = and_parts (same_dev f d) (same_state y x) o in
    let ab = and_parts (not (has_begun P) && has_dev s.luns f) (may_become (state s f P) y) al in
    let a1 = and_parts (not (has_begun P)) _ ab.0 in
    let both : has_dev s.luns f && may_become (state s f P) x ≡ true = and_from _ _ a1.1 (subst (λ (z : DeviceState). may_become (state s f P) z ≡ true) (same_state_is y x same.1) ab.1) in
    (not-true _ a1.0, rw (subst (λ (g : DevAddr). has_dev s.luns g && may_become (state s g P) x ≡ true) (same_dev_is f d same.0) both) refl)
set_no s P d x e o al = cc o

pub sets : (s : HostSpec) (P : List Entry) (d : DevAddr) (x : DeviceState) → IsRightlyBarred s P (SetState d x)
sets s P d x due =
    let last : List (Bool × Why) = (not (has_dev s.luns d && may_become (state s d P) x), Illegal) ∷ [] in (
      λ h. let y = passed (has_begun P) EhRunning last refl h in
          let z = passed (not (has_dev s.luns d && may_become (state s d P) x)) Illegal [] refl y.1 in
          let both = and_parts (has_dev s.luns d) _ (not-false _ z.0) in
          (refl, record { opener = State d x; opens_it = and_from _ _ (same_dev_itself d) (same_state_itself x); may_stand = and_from (not (has_begun P) && has_dev s.luns d) _ (and_from (not (has_begun P)) _ (rw y.0 refl) both.0) both.1 }),
      λ h. let y = set_no s P d x h.1.opener h.1.opens_it h.1.may_stand in
          passes (has_begun P) EhRunning last y.0 (passes (not (has_dev s.luns d && may_become (state s d P) x)) Illegal [] y.1 refl),
    )
