-- What Work and Due add: the next answer, and what comes of the first attempt that is past its deadline.
use Rattle.std.proofs.Common.{◌≡◌, ℕ, ◌==◌, Bool, true, not, ◌&&◌, ◌||◌, List, [], ◌∷◌, Option, Some, refl, sym, ap, ap₂, ◌∙◌, subst, ⊎_elim, arith, nat_le, nat_lt}
use Rattle.std.specs.List.{list_all}
use Rattle.std.proofs.lemmas.Bool.{and_parts, or_cases, not_from_true}
use Rattle.std.proofs.lemmas.Bool.Decides.{eqb_tells, nat_tests}
use Rattle.mid_base.specs.declared.names.Attempt.{Attempt}
use Rattle.mid_base.specs.declared.answers.Answer.{Answer}
use Rattle.mid_base.specs.declared.faults.Fault.{Fault}
use Rattle.mid_base.specs.declared.faults.Fault.TheVariants.{Longer as LongerHit, TimerDone}
use Rattle.mid_base.specs.declared.entries.Entry.{Entry}
use Rattle.mid_base.specs.declared.entries.Entry.TheVariants.{Sent, Bounced, Ready, Due, Longer, DoneSaid, Owned}
use Rattle.mid_base.specs.declared.steps.Step.TheVariants.{Work, Due as AskDue}
use Rattle.mid_base.specs.declared.host_spec.HostSpec.{HostSpec}
use Rattle.mid_base.specs.Past.{ticks}
use Rattle.host_template.specs.Standing.{Before}
use Rattle.trace_model.specs.Attempts.{attempts, is_open, is_due}
use Rattle.trace_model.specs.Time.{deadline, is_expired, is_before, may_ask}
use Rattle.trace_model.specs.Steps.{opens}
use Rattle.trace_model.specs.Rules.{Allowed}
use Rattle.debug_adapter.specs.LowerRun.{timer_hit}
use Rattle.debug_adapter.proofs.Once.{answer_once}
use Rattle.adds_laws.proofs.Plain.{attempt_is}
use Rattle.adds_laws.proofs.Along.{Says}

-- ---- Work

works : (s : HostSpec) (P : List Entry) (e : Entry) → opens s P Work e ≡ true → (n : Attempt) × (a : Answer) × (e ≡ Ready n a)
works s P (Ready n a) o = (n, a, refl)
works s P e o = cc o

pub works_one : (s : HostSpec) (b : Before) (P : List Entry) (e f : Entry) → opens s P Work e ≡ true → Says s b P e → opens s P Work f ≡ true → Says s b P f → e ≡ f
works_one s b P e f o q p r =
    let x = works s P e o in
    let y = works s P f p in
    let same = answer_once s b P x.0 y.0 x.1 y.1 (subst (Says s b P) x.2 q) (subst (Says s b P) y.2 r) in
    x.2 ∙ (ap₂ (λ (n : Attempt) (a : Answer). Ready n a) same.0 same.1 ∙ sym y.2)

-- ---- Due: the first of those that are expired

-- an open attempt is among the attempts
open_all : (f : ℕ → Bool) (n : ℕ) (P : List Entry) → is_open n P ≡ true → list_all f (attempts P) ≡ true → f n ≡ true
open_all f n [] o h = cc o
open_all f n (Sent c m t ∷ P) o h =
    let parts = and_parts (f m.0) (list_all f (attempts P)) h in
    ⊎_elim
    (λ yes. subst (λ (k : ℕ). f k ≡ true) yes.1 parts.0)
    (λ no. open_all f n P (rw no.0 at o) parts.1)
    (eqb_tells m.0 n)
open_all f n (Bounced c m why ∷ P) o h = ⊎_elim (λ yes. absurd (cc (rw yes.0 at o))) (λ no. open_all f n P (rw no.0 at o) h) (eqb_tells m.0 n)
open_all f n (Owned m by ∷ P) o h = ⊎_elim (λ yes. absurd (cc (rw yes.0 at o))) (λ no. open_all f n P (rw no.0 at o) h) (eqb_tells m.0 n)
open_all f n (e ∷ P) o h = open_all f n P o h

expired_open : (s : HostSpec) (P : List Entry) (n : ℕ) → is_expired s P n ≡ true → is_open n P ≡ true
expired_open s P n h =
    let three = and_parts (is_open n P && nat_le (deadline s P n) (ticks P) && not (is_due n P)) _ h in
    let two = and_parts (is_open n P && nat_le (deadline s P n) (ticks P)) _ three.0 in
    (and_parts (is_open n P) _ two.0).0

leads_to : (s : HostSpec) (P : List Entry) (n m : ℕ) → may_ask s P n ≡ true → is_expired s P m ≡ true → is_before s P n m ≡ true
leads_to s P n m h e =
    let parts = and_parts (is_expired s P n) _ h in
    let at : not (is_expired s P m) || is_before s P n m ≡ true = open_all (λ (k : ℕ). not (is_expired s P k) || is_before s P n k) m P (expired_open s P m e) parts.1 in
    ⊎_elim (λ no. absurd (cc (sym (not_from_true _ e) ∙ no))) (λ yes. yes) (or_cases (not (is_expired s P m)) (is_before s P n m) at)

both_first : (a n b m : ℕ) → nat_lt a b || ((a == b) && nat_le n m) ≡ true → nat_lt b a || ((b == a) && nat_le m n) ≡ true → n ≡ m
both_first a n b m x y = grind (arith, nat_tests)

ask_one : (s : HostSpec) (P : List Entry) (n m : ℕ) → may_ask s P n ≡ true → may_ask s P m ≡ true → n ≡ m
ask_one s P n m x y =
    both_first (deadline s P n) n (deadline s P m) m
    (leads_to s P n m x (and_parts (is_expired s P m) _ y).0)
    (leads_to s P m n y (and_parts (is_expired s P n) _ x).0)

-- what comes of asking
abbrev comes_of : Option Fault → Attempt → Entry
comes_of (Some LongerHit) n = Longer n
comes_of (Some TimerDone) n = DoneSaid n
comes_of o n = Due n

asks : (s : HostSpec) (b : Before) (P : List Entry) (e : Entry) → opens s P AskDue e ≡ true → Allowed s P e → Says s b P e
    → (n : Attempt) × (may_ask s P n.0 ≡ true) × (e ≡ comes_of (timer_hit s b P n) n)
asks s b P (Due n) o al q = (n, al, ap (λ (f : Option Fault). comes_of f n) (sym q.0))
asks s b P (Longer n) o al q = (n, al, ap (λ (f : Option Fault). comes_of f n) (sym q.0))
asks s b P (DoneSaid n) o al q = (n, al, ap (λ (f : Option Fault). comes_of f n) (sym q.0))
asks s b P e o al q = cc o

pub asks_one : (s : HostSpec) (b : Before) (P : List Entry) (e f : Entry) → opens s P AskDue e ≡ true → Allowed s P e → Says s b P e
    → opens s P AskDue f ≡ true → Allowed s P f → Says s b P f → e ≡ f
asks_one s b P e f o x q p y r =
    let a = asks s b P e o x q in
    let c = asks s b P f p y r in
    let same : a.0 ≡ c.0 = attempt_is a.0 c.0 (ask_one s P a.0.0 c.0.0 a.1 c.1) in
    a.2 ∙ (ap (λ (n : Attempt). comes_of (timer_hit s b P n) n) same ∙ sym c.2)
