-- What the table's queries come to by the journal.
use Rattle.std.proofs.Common.{◌≡◌, ℕ, ◌<◌, ◌≤◌, ◌==◌, Bool, true, false, not, ◌||◌, List, [], ◌∷◌, Option, Some, None, refl, sym, ◌∙◌, subst, arith, inl, inr}
use Rattle.std.specs.Prelude.{nat_le, is_some, MatchOption}
use Rattle.std.specs.List.{list_any, list_all}
use Rattle.std.proofs.lemmas.Bool.{cases_Bool, false≢true, eqb-true, or_parts, and_parts, and_from, or_from, leb-true, le-leb}
use Rattle.mid_base.specs.declared.names.Attempt.{Attempt}
use Rattle.mid_base.specs.declared.entries.Entry.{Entry}
use Rattle.mid_base.specs.declared.entries.Entry.TheVariants as entry
use Rattle.mid_base.specs.declared.host_spec.HostSpec.{HostSpec}
use Rattle.mid_base.specs.Past.{ticks}
use Rattle.trace_model.specs.Attempts.{attempts, is_open, is_due, is_said_done}
use Rattle.trace_model.specs.Time.{deadline, is_expired, is_before, may_ask}
use Rattle.timer_list.specs.Timers.{Timer, deadline_of, IsFirstDue, is_before as is_earlier}
use Rattle.deadline_table.specs.DeadlinesAgree.{is_timed, Says}
use Rattle.deadline_table.proofs.Bools.{was_open, opened_before, expired_parts, expires, open_of, both_before, implied, implies}
use Rattle.deadline_table.proofs.Changes.{timer_tells}

-- an open attempt is one of the attempts
pub open_passes : (test : ℕ → Bool) (P : List Entry) (n : ℕ) → is_open n P ≡ true → list_all test (attempts P) ≡ true → test n ≡ true
open_passes test [] n opened all = absurd (false≢true opened)
open_passes test (entry.Sent c m t ∷ P) n opened all =
    let parts = and_parts (test m.0) (list_all test (attempts P)) all in
    elim (cases_Bool (m.0 == n)) [
      | inl e ↦ subst (λ (k : ℕ). test k ≡ true) (eqb-true m.0 n e) parts.0
      | inr ne ↦ open_passes test P n (opened_before (m.0 == n) (is_open n P) ne opened) parts.1
    ]
open_passes test (entry.Bounced c m why ∷ P) n opened all = open_passes test P n (was_open (m.0 == n) (is_open n P) opened) all
open_passes test (entry.Owned m by ∷ P) n opened all = open_passes test P n (was_open (m.0 == n) (is_open n P) opened) all
open_passes test (e ∷ P) n opened all = open_passes test P n opened all

open_fails : (test : ℕ → Bool) (P : List Entry) (n : ℕ) → is_open n P ≡ true → list_any test (attempts P) ≡ false → test n ≡ false
open_fails test [] n opened none = absurd (false≢true opened)
open_fails test (entry.Sent c m t ∷ P) n opened none =
    let parts = or_parts (test m.0) (list_any test (attempts P)) none in
    elim (cases_Bool (m.0 == n)) [
      | inl e ↦ subst (λ (k : ℕ). test k ≡ false) (eqb-true m.0 n e) parts.0
      | inr ne ↦ open_fails test P n (opened_before (m.0 == n) (is_open n P) ne opened) parts.1
    ]
open_fails test (entry.Bounced c m why ∷ P) n opened none = open_fails test P n (was_open (m.0 == n) (is_open n P) opened) none
open_fails test (entry.Owned m by ∷ P) n opened none = open_fails test P n (was_open (m.0 == n) (is_open n P) opened) none
open_fails test (e ∷ P) n opened none = open_fails test P n opened none

each_passes : (test : ℕ → Bool) (ns : List ℕ) → ((n : ℕ) → test n ≡ true) → list_all test ns ≡ true
each_passes test [] all = refl
each_passes test (n ∷ ns) all = and_from (test n) (list_all test ns) (all n) (each_passes test ns all)

each_fails : (test : ℕ → Bool) (ns : List ℕ) → ((n : ℕ) → test n ≡ false) → list_any test ns ≡ false
each_fails test [] none = refl
each_fails test (n ∷ ns) none = or_from (test n) (list_any test ns) (none n) (each_fails test ns none)

module _ (s : HostSpec) (P : List Entry) where
  expired_tells : (n : ℕ) → is_expired s P n ≡ true → (is_timed n P ≡ true) × (deadline s P n ≤ ticks P)
  expired_tells n expired =
      let parts = expired_parts (is_open n P) (nat_le (deadline s P n) (ticks P)) (is_due n P) (is_said_done n P) expired in
      (parts.0, leb-true (deadline s P n) (ticks P) parts.1)

  expired_is_open : (n : ℕ) → is_expired s P n ≡ true → is_open n P ≡ true
  expired_is_open n expired = open_of (is_open n P) (is_due n P) (is_said_done n P) (expired_tells n expired).0

  -- an attempt that is expired is one of the attempts
  pub none_expired : list_any (is_expired s P) (attempts P) ≡ false → (n : ℕ) → is_expired s P n ≡ false
  none_expired none n = elim (cases_Bool (is_expired s P n)) [
    | inl expired ↦ open_fails (is_expired s P) P n (expired_is_open n expired) none
    | inr isnt ↦ isnt
  ]

  module _ (timers : List Timer) (run : Says s P timers) (now : ℕ) (clock : ticks P ≡ now) where
    expired_has_timer : (n : ℕ) → is_expired s P n ≡ true → deadline_of n timers ≡ Some (deadline s P n)
    expired_has_timer n expired = run.waits n ∙ rw ((expired_tells n expired).0) refl

    pub none_asked : IsFirstDue timers now None → (n : ℕ) → is_expired s P n ≡ false
    none_asked first n = elim (cases_Bool (is_expired s P n)) [
      | inl expired ↦
          let later : now < deadline s P n = first n (deadline s P n) (expired_has_timer n expired) in
          absurd (omega (arith, later, clock, (expired_tells n expired).1))
      | inr isnt ↦ isnt
    ]

    module _ (n : Attempt) (first : IsFirstDue timers now (Some n)) where
      told : (is_timed n.0 P ≡ true) × (deadline s P n.0 ≡ first.0)
      told = timer_tells s P timers run n.0 first.0 first.1

      pub first_expired : is_expired s P n.0 ≡ true
      first_expired =
          expires (is_open n.0 P) (nat_le (deadline s P n.0) (ticks P)) (is_due n.0 P) (is_said_done n.0 P) told.0
          (le-leb (deadline s P n.0) (ticks P) (omega (arith, told.1, first.2, clock)))

      before_others : (m : ℕ) → is_expired s P m ≡ true → is_before s P n.0 m ≡ true
      before_others m expired =
          subst (λ (at : ℕ). is_earlier n.0 at m (deadline s P m) ≡ true) (sym told.1)
          (first.3 m (deadline s P m) (expired_has_timer m expired))

      pub first_asked : may_ask s P n.0 ≡ true
      first_asked =
          and_from (is_expired s P n.0) (list_all (λ m. not (is_expired s P m) || is_before s P n.0 m) (attempts P)) first_expired
          (each_passes (λ m. not (is_expired s P m) || is_before s P n.0 m) (attempts P)
          (λ m. implied (is_expired s P m) (is_before s P n.0 m) (before_others m)))

      pub alone_asked : (m : ℕ) → may_ask s P m ≡ true → m ≡ n.0
      alone_asked m asked =
          let parts = and_parts (is_expired s P m) (list_all (λ k. not (is_expired s P k) || is_before s P m k) (attempts P)) asked in
          let at_n = open_passes (λ k. not (is_expired s P k) || is_before s P m k) P n.0 (expired_is_open n.0 first_expired) parts.1 in
          both_before n.0 (deadline s P n.0) m (deadline s P m) (before_others m parts.0)
          (implies (is_expired s P n.0) (is_before s P m n.0) at_n first_expired)

    pub asks : (x : Option Attempt) → IsFirstDue timers now x
        → MatchOption x ((m : ℕ) → is_expired s P m ≡ false) (λ n. (may_ask s P n.0 ≡ true) × ((m : ℕ) → may_ask s P m ≡ true → m ≡ n.0))
    asks None first = none_asked first
    asks (Some n) first = (first_asked n first, alone_asked n first)

    pub some_expired : (x : Option Attempt) → IsFirstDue timers now x → list_any (is_expired s P) (attempts P) ≡ is_some x
    some_expired None first = each_fails (is_expired s P) (attempts P) (none_asked first)
    some_expired (Some n) first = elim (cases_Bool (list_any (is_expired s P) (attempts P))) [
      | inl some ↦ some
      | inr none ↦ absurd (false≢true (sym (none_expired none n.0) ∙ first_expired n first))
    ]
