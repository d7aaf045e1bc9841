-- Settle: an attempt that its answer owns has one.
use Rattle.std.proofs.Common.{eq-eqb, ◌≡◌, ◌⊎◌, ℕ, ◌==◌, Bool, true, false, not, ◌&&◌, ◌||◌, cond, List, [], ◌∷◌, refl, sym, ◌∙◌, subst, inl, inr, ⊎_elim, is_some, is_none, Option, None, Some, option_map}
use Rattle.std.proofs.lemmas.Bool.{eqb-true, cases_Bool, and_parts, and_from, not-true, not-false, and_cases, or_parts, or_from}
use Rattle.std.proofs.lemmas.Bool.Decides.{eqb_tells}
use Rattle.mid_base.specs.declared.names.Attempt.{Attempt}
use Rattle.mid_base.specs.declared.answers.By.{By}
use Rattle.mid_base.specs.declared.answers.By.TheVariants.{Answer as ByAnswer, Expiry as ByExpiry}
use Rattle.mid_base.specs.declared.entries.Entry.{Entry}
use Rattle.mid_base.specs.declared.entries.Entry.TheVariants.{Sent, Bounced, Ready, Owned, Judged, AbortSet, Failed, Sensed}
use Rattle.mid_base.specs.declared.steps.Step.TheVariants.{Settle}
use Rattle.mid_base.specs.declared.steps.Why.TheVariants.{NotOwned}
use Rattle.mid_base.specs.declared.host_spec.HostSpec.{HostSpec}
use Rattle.mid_base.specs.Answers.{with_sense}
use Rattle.mid_base.specs.Past.{sent_for}
use Rattle.trace_model.specs.Attempts.{is_open, is_answered, is_wanted, answer, owner, is_by_answer, is_by_expiry, is_settled}
use Rattle.trace_model.specs.Devices.{has_begun}
use Rattle.trace_model.specs.Judging.{disp_of, to_judge, to_abort, has_abort_left}
use Rattle.trace_model.specs.Rules.{Allowed, MayJudge}
use Rattle.trace_model.specs.Steps.{opens}
use Rattle.trace_model.specs.Legal.{EachStands}
use Rattle.trace_model.proofs.Owes.{stands}
use Rattle.trace_model.proofs.Stage.{unsettled}
use Rattle.trace_model.proofs.Once.{judge_fits}
use Rattle.step_laws.specs.Enabled.{IsEnabled, IsRightlyBarred}
use Rattle.step_laws.proofs.Causes.{passed, passes}
use Rattle.step_laws.proofs.Rests.{none_unsettled}

mapped_some : {A : Type 0} (f : A → A) (b : Bool) (o : Option A) → is_some o ≡ true → is_some (cond b (option_map f o) o) ≡ true
mapped_some f true (Some x) h = refl
mapped_some f true None h = cc h
mapped_some f false o h = h

-- an open attempt with a Ready has an answer
answered_some : (n : ℕ) (P : List Entry) → is_open n P ≡ true → is_answered n P ≡ true → is_some (answer n P) ≡ true
answered_some n [] o a = cc o
answered_some n (Sent c m t ∷ P) o a = ⊎_elim (λ yes. absurd (cc (rw yes.0 at a))) (λ no. answered_some n P (rw no.0 at o) (rw no.0 at a)) (eqb_tells m.0 n)
answered_some n (Bounced c m why ∷ P) o a = ⊎_elim (λ yes. absurd (cc (rw yes.0 at o))) (λ no. answered_some n P (rw no.0 at o) a) (eqb_tells m.0 n)
answered_some n (Owned m by ∷ P) o a = ⊎_elim (λ yes. absurd (cc (rw yes.0 at o))) (λ no. answered_some n P (rw no.0 at o) a) (eqb_tells m.0 n)
answered_some n (Ready m x ∷ P) o a = ⊎_elim
    (λ yes. rw yes refl)
    (λ no. rw no (⊎_elim
    (λ same.
    let wanted : is_open n P && not (is_answered n P) ≡ false = rw same.0 at no in
    answered_some n P o (⊎_elim (λ shut. absurd (cc (sym shut ∙ o))) (λ had. not-false _ had) (and_cases (is_open n P) (not (is_answered n P)) wanted)))
    (λ other. answered_some n P o (rw other.0 at a))
    (eqb_tells m.0 n)))
    (cases_Bool ((m.0 == n) && is_wanted n P))
answered_some n (Sensed c m s ∷ P) o a = mapped_some (with_sense s) (m.0 == n) (answer n P) (answered_some n P o a)
answered_some n (e ∷ P) o a = answered_some n P o a

-- an attempt that its answer owns has an answer
pub owned_answer : (s : HostSpec) (n : ℕ) (P : List Entry) → EachStands s P → is_by_answer (owner n P) ≡ true → is_some (answer n P) ≡ true
owned_answer s n [] each b = cc b
owned_answer s n (Owned m ByExpiry ∷ P) each b = ⊎_elim (λ yes. absurd (cc (rw yes.0 at b))) (λ no. owned_answer s n P each.1 (rw no.0 at b)) (eqb_tells m.0 n)
owned_answer s n (Owned m ByAnswer ∷ P) each b = ⊎_elim
    (λ yes.
    let may : is_open m.0 P && is_answered m.0 P ≡ true = ⊎_elim (λ al. al) (λ f. absurd (⊎_elim (λ q. cc q) (λ q. cc q) f)) (stands s P (Owned m ByAnswer) each.0) in
    let parts = and_parts (is_open n P) (is_answered n P) (subst (λ (k : ℕ). is_open k P && is_answered k P ≡ true) yes.1 may) in
    answered_some n P parts.0 parts.1)
    (λ no. owned_answer s n P each.1 (rw no.0 at b))
    (eqb_tells m.0 n)
owned_answer s n (Ready m x ∷ P) each b = ⊎_elim
    (λ yes. rw yes refl)
    (λ no. rw no (owned_answer s n P each.1 b))
    (cases_Bool ((m.0 == n) && is_wanted n P))
owned_answer s n (Sensed c m x ∷ P) each b = mapped_some (with_sense x) (m.0 == n) (answer n P) (owned_answer s n P each.1 b)
owned_answer s n (e ∷ P) each b = owned_answer s n P each.1 b

pub there : {A : Type 0} (o : Option A) → is_some o ≡ true → (x : A) × (o ≡ Some x)
there None h = cc h
there (Some x) h = (x, refl)

owned_some : (o : Option By) → is_none o ≡ false → is_some o ≡ true
owned_some None h = cc h
owned_some (Some by) h = refl

some_owned : (o : Option By) → is_some o ≡ true → is_none o ≡ false
some_owned None h = cc h
some_owned (Some by) h = refl

by_one : (o : Option By) → is_none o ≡ false → (is_by_answer o ≡ true) ⊎ (is_by_expiry o ≡ true)
by_one None h = cc h
by_one (Some ByAnswer) h = inl refl
by_one (Some ByExpiry) h = inr refl

expiry_some : (o : Option By) → is_by_expiry o ≡ true → is_none o ≡ false
expiry_some None h = cc h
expiry_some (Some by) h = refl

settle_yes : (s : HostSpec) (P : List Entry) (n : Attempt) → EachStands s P → is_none (owner n.0 P) ≡ false → is_settled n.0 P ≡ false → IsEnabled s P (Settle n)
settle_yes s P n each w u =
    let free : not (is_settled n.0 P) ≡ true = rw u refl in
    let live : unsettled n.0 P ≡ true = and_from (is_some (owner n.0 P)) (not (is_settled n.0 P)) (owned_some (owner n.0 P) w) free in
    let calm : has_begun P ≡ false = ⊎_elim (λ b. absurd (none_unsettled s P n.0 each b live)) (λ no. no) (cases_Bool (has_begun P)) in
    let c : ℕ = sent_for n.0 P in
    ⊎_elim
    (λ a.
    let x = there (answer n.0 P) (owned_answer s n.0 P each a) in
    let judge : to_judge P c n.0 && not (has_begun P) ≡ true = and_from (to_judge P c n.0) _ (and_from (is_by_answer (owner n.0 P) && not (is_settled n.0 P)) _ (and_from (is_by_answer (owner n.0 P)) _ a free) (eq-eqb c c refl)) (rw calm refl) in
    record {
      opener = Judged (record { 0 = c }) n (disp_of s P c x.0);
      opens_it = eq-eqb n.0 n.0 refl;
      may_stand = subst (MayJudge s P c n.0 (disp_of s P c x.0)) (sym x.1) (judge, refl);
    })
    (λ x.
    let abort : to_abort P c n.0 ≡ true = and_from (is_by_expiry (owner n.0 P) && not (is_settled n.0 P)) _ (and_from (is_by_expiry (owner n.0 P)) _ x free) (eq-eqb c c refl) in
    ⊎_elim
    (λ left. record { opener = AbortSet (record { 0 = c }) n; opens_it = eq-eqb n.0 n.0 refl; may_stand = and_from (to_abort P c n.0) _ abort left })
    (λ none. record { opener = Failed (record { 0 = c }) n true; opens_it = eq-eqb n.0 n.0 refl; may_stand = and_from (true && to_abort P c n.0) _ abort (rw none refl) })
    (cases_Bool (has_abort_left s P c)))
    (by_one (owner n.0 P) w)

live_no : (P : List Entry) (n : ℕ) → unsettled n P ≡ true → is_none (owner n P) || is_settled n P ≡ false
live_no P n u = let parts = and_parts (is_some (owner n P)) (not (is_settled n P)) u in or_from (is_none (owner n P)) (is_settled n P) (some_owned (owner n P) parts.0) (not-true _ parts.1)

abort_no : (P : List Entry) (c n : ℕ) → to_abort P c n ≡ true → is_none (owner n P) || is_settled n P ≡ false
abort_no P c n h =
    let two = (and_parts (is_by_expiry (owner n P) && not (is_settled n P)) _ h).0 in
    let parts = and_parts (is_by_expiry (owner n P)) (not (is_settled n P)) two in
    or_from (is_none (owner n P)) (is_settled n P) (expiry_some (owner n P) parts.0) (not-true _ parts.1)

settle_no : (s : HostSpec) (P : List Entry) (n : Attempt) (e : Entry) → opens s P (Settle n) e ≡ true → Allowed s P e → is_none (owner n.0 P) || is_settled n.0 P ≡ false
settle_no s P n (Judged c m d) o al = subst (λ (k : ℕ). is_none (owner k P) || is_settled k P ≡ false) (eqb-true m.0 n.0 o) (live_no P m.0 (judge_fits s P c.0 m.0 d (answer m.0 P) al).0)
settle_no s P n (AbortSet c m) o al = subst (λ (k : ℕ). is_none (owner k P) || is_settled k P ≡ false) (eqb-true m.0 n.0 o) (abort_no P c.0 m.0 (and_parts (to_abort P c.0 m.0) _ al).0)
settle_no s P n (Failed c m x) o al = subst (λ (k : ℕ). is_none (owner k P) || is_settled k P ≡ false) (eqb-true m.0 n.0 o)
    (abort_no P c.0 m.0 (and_parts x (to_abort P c.0 m.0) (and_parts (x && to_abort P c.0 m.0) _ al).0).1)
settle_no s P n e o al = cc o

pub settles : (s : HostSpec) (P : List Entry) (n : Attempt) → EachStands s P → IsRightlyBarred s P (Settle n)
settles s P n each due = (
  λ h. let parts = or_parts (is_none (owner n.0 P)) (is_settled n.0 P) (passed (is_none (owner n.0 P) || is_settled n.0 P) NotOwned [] refl h).0 in (refl, settle_yes s P n each parts.0 parts.1),
  λ h. passes (is_none (owner n.0 P) || is_settled n.0 P) NotOwned [] (settle_no s P n h.1.opener h.1.opens_it h.1.may_stand) refl,
)
