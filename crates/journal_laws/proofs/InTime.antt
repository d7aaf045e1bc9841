-- An attempt that is answered before its deadline isn't owned by its expiry.
use Rattle.std.proofs.Common.{◌≡◌, ℕ, ◌+◌, ◌<◌, ◌≤◌, ◌==◌, Bool, true, false, not, ◌&&◌, ◌||◌, if◌then◌else◌, List, [], ◌∷◌, Option, Some, refl, sym, ◌∙◌, subst, arith, ⊎_elim, nat_le}
use Rattle.std.specs.List.{list_any, list_all}
use Rattle.std.proofs.lemmas.Bool.{cases_Bool}
use Rattle.std.proofs.lemmas.Bool.Decides.{eqb_tells, leb_tells}
use Rattle.std.proofs.lemmas.Option.{none-some, same_Some}
use Rattle.mid_base.specs.declared.names.CmdId.{CmdId}
use Rattle.mid_base.specs.declared.names.Attempt.{Attempt}
use Rattle.mid_base.specs.declared.names.Tag.{Tag}
use Rattle.mid_base.specs.declared.answers.By.{By}
use Rattle.mid_base.specs.declared.answers.By.TheVariants.{Answer as ByAnswer, Expiry as ByExpiry}
use Rattle.mid_base.specs.declared.answers.BusyOf.{BusyOf}
use Rattle.mid_base.specs.declared.answers.Answer.{Answer}
use Rattle.mid_base.specs.declared.entries.Entry.{Entry}
use Rattle.mid_base.specs.declared.entries.Entry.TheVariants.{Sent, Bounced, Ready, Due, Longer, Owned, Tick}
use Rattle.mid_base.specs.declared.host_spec.HostSpec.{HostSpec}
use Rattle.mid_base.specs.Past.{ticks}
use Rattle.trace_model.specs.Attempts.{attempts, sends, is_open, is_answered, is_wanted, late, answered, is_due, is_said_done, owner, is_by_expiry}
use Rattle.trace_model.specs.Time.{deadline, is_expired, may_ask, is_claimed, may_tick}
use Rattle.trace_model.specs.Judging.{may_own}
use Rattle.trace_model.specs.Rules.{Allowed}
use Rattle.trace_model.specs.Legal.{EachStands}
use Rattle.trace_model.proofs.Owes.{Follower, stands}
use Rattle.trace_model.proofs.Once.{and_left, and_right}
use Rattle.journal_laws.specs.Goods.{ready_at}
use Rattle.journal_laws.proofs.Numbered.{fits_all}
use Rattle.journal_laws.proofs.Known.{open_old}

record Timed (s : HostSpec) (n : ℕ) (P : List Entry) : Type 0 where
  -- a deadline that was reached isn't above the tick
  due_past : is_due n P ≡ true → deadline s P n ≤ ticks P
  -- an open attempt with its answer was answered at this tick
  ready_now : (t : ℕ) → ready_at n P ≡ Some t → is_open n P ≡ true → (t ≡ ticks P) × (is_answered n P ≡ true)
  -- where both stand, the deadline isn't above the tick of the answer
  due_ready : (t : ℕ) → ready_at n P ≡ Some t → is_due n P ≡ true → deadline s P n ≤ t
  expiry_due : is_by_expiry (owner n P) ≡ true → is_due n P ≡ true
  due_old : is_due n P ≡ true → n ≤ sends P
  ready_old : (t : ℕ) → ready_at n P ≡ Some t → n ≤ sends P

opener : (s : HostSpec) (P : List Entry) (e : Entry) → (Follower e → ⊥) → EachStands s (e ∷ P) → Allowed s P e
opener s P e isnt each = ⊎_elim (λ al. al) (λ f. absurd (isnt f)) (stands s P e each.0)

-- an entry that leaves these words
same : (s : HostSpec) (n : ℕ) (P Q : List Entry) → is_due n Q ≡ is_due n P → deadline s Q n ≡ deadline s P n → ticks Q ≡ ticks P → ready_at n Q ≡ ready_at n P → is_open n Q ≡ is_open n P → is_answered n Q ≡ is_answered n P → owner n Q ≡ owner n P → sends Q ≡ sends P → Timed s n P → Timed s n Q
same s n P Q d dl tk r o an ow se h = record {
  due_past = λ q. omega (arith, dl, tk, h.due_past (sym d ∙ q));
  ready_now = λ t q i. let x = h.ready_now t (sym r ∙ q) (sym o ∙ i) in (x.0 ∙ sym tk, an ∙ x.1);
  due_ready = λ t q i. omega (arith, dl, h.due_ready t (sym r ∙ q) (sym d ∙ i));
  expiry_due = λ q. d ∙ h.expiry_due (subst (λ (w : Option By). is_by_expiry w ≡ true) ow q);
  due_old = λ q. omega (arith, se, h.due_old (sym d ∙ q));
  ready_old = λ t q. omega (arith, se, h.ready_old t (sym r ∙ q));
}

asked : (s : HostSpec) (P : List Entry) (n : ℕ) → may_ask s P n ≡ true → is_expired s P n ≡ true
asked s P n h = and_left (is_expired s P n) _ h

expired_open : (s : HostSpec) (P : List Entry) (n : ℕ) → is_expired s P n ≡ true → (is_open n P ≡ true) × (deadline s P n ≤ ticks P) × (is_due n P ≡ false)
expired_open s P n h =
    let abc : is_open n P && nat_le (deadline s P n) (ticks P) && not (is_due n P) ≡ true = and_left (is_open n P && nat_le (deadline s P n) (ticks P) && not (is_due n P)) (not (is_said_done n P)) h in
    let ab : is_open n P && nat_le (deadline s P n) (ticks P) ≡ true = and_left (is_open n P && nat_le (deadline s P n) (ticks P)) (not (is_due n P)) abc in
    (and_left (is_open n P) _ ab, at_most (deadline s P n) (ticks P) (and_right (is_open n P) _ ab), untrue (is_due n P) (and_right (is_open n P && nat_le (deadline s P n) (ticks P)) _ abc))
  where
    untrue : (b : Bool) → not b ≡ true → b ≡ false
    untrue true h = cc h
    untrue false h = refl

    at_most : (a b : ℕ) → nat_le a b ≡ true → a ≤ b
    at_most a b h = ⊎_elim (λ le. le.1) (λ lt. absurd (cc (sym lt.0 ∙ h))) (leb_tells a b)

-- Sent
sent_timed : (s : HostSpec) (n : ℕ) (P : List Entry) (c : CmdId) (m : Attempt) (t : Tag) → m.0 ≡ sends P + 1 → Timed s n P → Timed s n (Sent c m t ∷ P)
sent_timed s n P c m t e h = ⊎_elim
    (λ yes. record {
      due_past = λ q. absurd (omega (arith, h.due_old q, e, yes.1));
      ready_now = λ u q i. absurd (omega (arith, h.ready_old u q, e, yes.1));
      due_ready = λ u q i. absurd (omega (arith, h.due_old i, e, yes.1));
      expiry_due = h.expiry_due;
      due_old = λ q. absurd (omega (arith, h.due_old q, e, yes.1));
      ready_old = λ u q. absurd (omega (arith, h.ready_old u q, e, yes.1));
    })
    (λ no. record {
      due_past = λ q. rw no.0 (h.due_past q);
      ready_now = λ u q i. rw no.0 (h.ready_now u q (rw no.0 at i));
      due_ready = λ u q i. rw no.0 (h.due_ready u q i);
      expiry_due = h.expiry_due;
      due_old = λ q. omega (arith, h.due_old q);
      ready_old = λ u q. omega (arith, h.ready_old u q);
    })
    (eqb_tells m.0 n)

-- Bounced
bounced_timed : (s : HostSpec) (n : ℕ) (P : List Entry) (c : CmdId) (m : Attempt) (why : BusyOf) → Timed s n P → Timed s n (Bounced c m why ∷ P)
bounced_timed s n P c m why h = record {
  due_past = h.due_past;
  ready_now = λ t q i. ⊎_elim (λ yes. absurd (cc (rw yes at i))) (λ no. h.ready_now t q (rw no at i)) (cases_Bool (m.0 == n));
  due_ready = h.due_ready;
  expiry_due = h.expiry_due;
  due_old = h.due_old;
  ready_old = h.ready_old;
}

-- Ready
ready_timed : (s : HostSpec) (n : ℕ) (P : List Entry) (m : Attempt) (a : Answer) → (is_open n P ≡ true → n ≤ sends P) → Timed s n P → Timed s n (Ready m a ∷ P)
ready_timed s n P m a old h = ⊎_elim
    (λ yes.
    let still_open : is_open n P ≡ true = and_left (is_open n P) (not (is_answered n P)) (and_right (m.0 == n) (is_wanted n P) yes) in
    let here : (m.0 == n) ≡ true = and_left (m.0 == n) (is_wanted n P) yes in
    record {
      due_past = h.due_past;
      ready_now = λ t q i. (sym (same_Some (ticks P) t (rw yes at q)), rw here refl);
      due_ready = λ t q i. omega (arith, h.due_past i, same_Some (ticks P) t (rw yes at q));
      expiry_due = h.expiry_due;
      due_old = h.due_old;
      ready_old = λ t q. old still_open;
    })
    (λ no. record {
      due_past = h.due_past;
      ready_now = λ t q i. let x = h.ready_now t (rw no at q) i in (x.0, now_answered (m.0 == n) (is_answered n P) x.1);
      due_ready = λ t q i. h.due_ready t (rw no at q) i;
      expiry_due = h.expiry_due;
      due_old = h.due_old;
      ready_old = λ t q. h.ready_old t (rw no at q);
    })
    (cases_Bool ((m.0 == n) && is_wanted n P))
  where
    now_answered : (b x : Bool) → x ≡ true → (if b then true else x) ≡ true
    now_answered true x q = refl
    now_answered false x q = q

-- Due and Longer
due_timed : (s : HostSpec) (n : ℕ) (P : List Entry) (m : Attempt) → is_expired s P m.0 ≡ true → (is_open n P ≡ true → n ≤ sends P) → Timed s n P → Timed s n (Due m ∷ P)
due_timed s n P m may old h = ⊎_elim
    (λ yes.
    let x = expired_open s P n (subst (λ (i : ℕ). is_expired s P i ≡ true) yes.1 may) in
    record {
      due_past = λ q. x.1;
      ready_now = h.ready_now;
      due_ready = λ t q i. omega (arith, x.1, (h.ready_now t q x.0).0);
      expiry_due = λ q. rw yes.0 refl;
      due_old = λ q. old x.0;
      ready_old = h.ready_old;
    })
    (λ no. record {
      due_past = λ q. h.due_past (rw no.0 at q);
      ready_now = h.ready_now;
      due_ready = λ t q i. h.due_ready t q (rw no.0 at i);
      expiry_due = λ q. rw no.0 (h.expiry_due q);
      due_old = λ q. h.due_old (rw no.0 at q);
      ready_old = h.ready_old;
    })
    (eqb_tells m.0 n)

longer_timed : (s : HostSpec) (n : ℕ) (P : List Entry) (m : Attempt) → is_expired s P m.0 ≡ true → Timed s n P → Timed s n (Longer m ∷ P)
longer_timed s n P m may h = ⊎_elim
    (λ yes.
    let x = expired_open s P n (subst (λ (i : ℕ). is_expired s P i ≡ true) yes.1 may) in
    record {
      due_past = λ q. absurd (cc (sym x.2 ∙ q));
      ready_now = h.ready_now;
      due_ready = λ t q i. absurd (cc (sym x.2 ∙ i));
      expiry_due = h.expiry_due;
      due_old = h.due_old;
      ready_old = h.ready_old;
    })
    (λ no. record {
      due_past = λ q. rw no.0 (h.due_past q);
      ready_now = h.ready_now;
      due_ready = λ t q i. rw no.0 (h.due_ready t q i);
      expiry_due = h.expiry_due;
      due_old = h.due_old;
      ready_old = h.ready_old;
    })
    (eqb_tells m.0 n)

-- Owned
owned_timed : (s : HostSpec) (n : ℕ) (P : List Entry) (m : Attempt) (by : By) → may_own m.0 by P ≡ true → Timed s n P → Timed s n (Owned m by ∷ P)
owned_timed s n P m by may h = ⊎_elim
    (λ yes. record {
      due_past = h.due_past;
      ready_now = λ t q i. absurd (cc (rw yes.0 at i));
      due_ready = h.due_ready;
      expiry_due = λ q. by_due by (subst (λ (i : ℕ). may_own i by P ≡ true) yes.1 may) (rw yes.0 at q);
      due_old = h.due_old;
      ready_old = h.ready_old;
    })
    (λ no. record {
      due_past = h.due_past;
      ready_now = λ t q i. h.ready_now t q (rw no.0 at i);
      due_ready = h.due_ready;
      expiry_due = λ q. h.expiry_due (rw no.0 at q);
      due_old = h.due_old;
      ready_old = h.ready_old;
    })
    (eqb_tells m.0 n)
  where
    by_due : (who : By) → may_own n who P ≡ true → is_by_expiry (Some who) ≡ true → is_due n P ≡ true
    by_due ByAnswer own q = cc q
    by_due ByExpiry own q = and_right (is_open n P) (is_due n P) own

-- Tick
open_any : (n : ℕ) (P : List Entry) (f : ℕ → Bool) → is_open n P ≡ true → f n ≡ true → list_any f (attempts P) ≡ true
open_any n [] f o q = cc o
open_any n (Sent c m t ∷ P) f o q = ⊎_elim
    (λ yes. rw (subst (λ (i : ℕ). f i ≡ true) (sym yes.1) q) refl)
    (λ no. later (f m.0) _ (open_any n P f (rw no.0 at o) q))
    (eqb_tells m.0 n)
  where
    later : (a b : Bool) → b ≡ true → a || b ≡ true
    later true b h = refl
    later false b h = h
open_any n (Bounced c m why ∷ P) f o q = ⊎_elim (λ yes. absurd (cc (rw yes at o))) (λ no. open_any n P f (rw no at o) q) (cases_Bool (m.0 == n))
open_any n (Owned m by ∷ P) f o q = ⊎_elim (λ yes. absurd (cc (rw yes at o))) (λ no. open_any n P f (rw no at o) q) (cases_Bool (m.0 == n))
open_any n (e ∷ P) f o q = open_any n P f o q

unclaimed : (s : HostSpec) (P : List Entry) (n : ℕ) → may_tick s P ≡ true → is_open n P ≡ true → is_answered n P ≡ true → ⊥
unclaimed s P n may o a =
    let none : not (list_any (is_claimed P) (attempts P)) ≡ true = and_left (not (list_any (is_claimed P) (attempts P))) _ (and_left (not (list_any (is_claimed P) (attempts P)) && list_all (λ k. late k P == 0) (answered P)) _ may) in
    let some : list_any (is_claimed P) (attempts P) ≡ true = open_any n P (is_claimed P) o (rw (o, a) refl) in
    cc (rw some at none)

tick_timed : (s : HostSpec) (n : ℕ) (P : List Entry) → may_tick s P ≡ true → Timed s n P → Timed s n (Tick ∷ P)
tick_timed s n P may h = record {
  due_past = λ q. omega (arith, h.due_past q);
  ready_now = λ t q i. absurd (unclaimed s P n may i (h.ready_now t q i).1);
  due_ready = h.due_ready;
  expiry_due = h.expiry_due;
  due_old = h.due_old;
  ready_old = h.ready_old;
}

timed_step : (s : HostSpec) (n : ℕ) (P : List Entry) (e : Entry) → EachStands s (e ∷ P) → Timed s n P → Timed s n (e ∷ P)
timed_step s n P (Sent c m t) each h = sent_timed s n P c m t (fits_all s 0 P (Sent c m t) each).1 h
timed_step s n P (Bounced c m why) each h = bounced_timed s n P c m why h
timed_step s n P (Ready m a) each h = ready_timed s n P m a (open_old s n P each.1) h
timed_step s n P (Due m) each h = due_timed s n P m (asked s P m.0 (opener s P (Due m) (λ f. ⊎_elim (λ q. cc q) (λ q. cc q) f) each)) (open_old s n P each.1) h
timed_step s n P (Longer m) each h = longer_timed s n P m (asked s P m.0 (opener s P (Longer m) (λ f. ⊎_elim (λ q. cc q) (λ q. cc q) f) each)) h
timed_step s n P (Owned m by) each h = owned_timed s n P m by (opener s P (Owned m by) (λ f. ⊎_elim (λ q. cc q) (λ q. cc q) f) each) h
timed_step s n P Tick each h = tick_timed s n P (opener s P Tick (λ f. ⊎_elim (λ q. cc q) (λ q. cc q) f) each) h
timed_step s n P e each h = same s n P (e ∷ P) refl refl refl refl refl refl refl refl h

timed : (s : HostSpec) (n : ℕ) (P : List Entry) → EachStands s P → Timed s n P
timed s n [] each = record {
  due_past = λ q. absurd (cc q);
  ready_now = λ t q i. absurd (cc i);
  due_ready = λ t q i. absurd (cc i);
  expiry_due = λ q. absurd (cc q);
  due_old = λ q. absurd (cc q);
  ready_old = λ t q. absurd (none-some t q);
}
timed s n (e ∷ P) each = timed_step s n P e each (timed s n P each.1)

pub in_time : (s : HostSpec) (P : List Entry) (n t : ℕ) → EachStands s P → ready_at n P ≡ Some t → t < deadline s P n → is_by_expiry (owner n P) ≡ false
in_time s P n t each r lt = ⊎_elim
    (λ yes. absurd (omega (arith, lt, (timed s n P each).due_ready t r ((timed s n P each).expiry_due yes))))
    (λ no. no)
    (cases_Bool (is_by_expiry (owner n P)))
