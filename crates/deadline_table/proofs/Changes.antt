-- What a change of one attempt's deadline does to what the table has.
use Rattle.std.proofs.Common.{◌≡◌, ◌≢◌, ℕ, ◌+◌, ◌≤◌, true, false, List, Option, Some, None, refl, sym, ap, ◌∙◌, subst, inl, inr}
use Rattle.std.specs.Prelude.{is_some, IsSome}
use Rattle.std.proofs.lemmas.Bool.{cases_Bool, cases_eq, false≢true}
use Rattle.mid_base.specs.declared.entries.Entry.{Entry}
use Rattle.mid_base.specs.declared.host_spec.HostSpec.{HostSpec}
use Rattle.mid_base.specs.Past.{ticks, was_sent}
use Rattle.trace_model.specs.Time.{deadline}
use Rattle.timer_list.specs.Timers.{Timer, deadline_of, Becomes}
use Rattle.deadline_table.specs.DeadlinesAgree.{is_timed, waits_until, timeout_of, IsNear, IsUnsaid, Says}
use Rattle.deadline_table.proofs.Bools.{same, differ, running}

module _ (s : HostSpec) (P : List Entry) (timers : List Timer) (run : Says s P timers) where
  -- an attempt that wasn't sent has no timer
  pub unsent_is_idle : (n : ℕ) → was_sent n P ≡ false → deadline_of n timers ≡ None
  unsent_is_idle n unsent = run.waits n ∙ rw ((run.unsent n unsent).0) refl

  pub timed_was_sent : (n : ℕ) → IsSome (deadline_of n timers) → was_sent n P ≡ true
  timed_was_sent n there = elim (cases_Bool (was_sent n P)) [
    | inl sent ↦ sent
    | inr unsent ↦ absurd (false≢true (sym (ap (λ (x : Option ℕ). is_some x) (unsent_is_idle n unsent)) ∙ there))
  ]

  pub timer_tells : (n at : ℕ) → deadline_of n timers ≡ Some at → (is_timed n P ≡ true) × (deadline s P n ≡ at)
  timer_tells n at is = running (is_timed n P) (deadline s P n) at (sym (run.waits n) ∙ is)

  module _ (P' : List Entry) (timers' : List Timer) (n : ℕ) (x : Option ℕ) (becomes : Becomes n x timers timers') (here : x ≡ waits_until s P' n)
      (soon : (at : ℕ) → x ≡ Some at → IsNear s P' n at) (time : ticks P' ≡ ticks P)
      (others : (m : ℕ) → m ≢ n → (waits_until s P' m ≡ waits_until s P m) × (timeout_of s P' m ≡ timeout_of s P m))
      (unsent : (m : ℕ) → was_sent m P' ≡ false → IsUnsaid P' m) where
    at_n : deadline_of n timers' ≡ x
    at_n = becomes n ∙ rw (same n) refl

    at_other : (m : ℕ) → m ≢ n → deadline_of m timers' ≡ deadline_of m timers
    at_other m ne = becomes m ∙ rw (differ ne) refl

    still_near : (m at : ℕ) → m ≢ n → IsNear s P m at → IsNear s P' m at
    still_near m at ne h =
        subst (λ (k : ℕ). (k ≤ at) × (at ≤ k + timeout_of s P' m)) (sym time)
        (subst (λ (k : ℕ). (ticks P ≤ at) × (at ≤ ticks P + k)) (sym (others m ne).1) h)

    pub says_changed : Says s P' timers'
    says_changed = record {
      waits = λ m. elim (cases_eq m n) [
        | inl e ↦ subst (λ (k : ℕ). deadline_of k timers' ≡ waits_until s P' k) (sym e) (at_n ∙ here)
        | inr ne ↦ at_other m ne ∙ (run.waits m ∙ sym (others m ne).0)
      ];
      near = λ m at is. elim (cases_eq m n) [
        | inl e ↦
            subst (λ (k : ℕ). IsNear s P' k at) (sym e)
            (soon at (sym at_n ∙ subst (λ (k : ℕ). deadline_of k timers' ≡ Some at) e is))
        | inr ne ↦ still_near m at ne (run.near m at (sym (at_other m ne) ∙ is))
      ];
      unsent = unsent;
    }
