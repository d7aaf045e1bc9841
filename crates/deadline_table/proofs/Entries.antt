-- What each entry does to what the table has.
use Rattle.std.proofs.Common.{◌≡◌, ◌≢◌, ℕ, ◌+◌, ◌*◌, ◌<◌, ◌≤◌, ◌==◌, Bool, false, if◌then◌else◌, List, [], ◌∷◌, Option, Some, None, refl, sym, ap, ◌∙◌, subst, arith, inl, inr}
use Rattle.std.specs.Prelude.{IsSome, nat_le, is_some}
use Rattle.std.proofs.lemmas.Bool.{cases_Bool, false≢true, leb-false}
use Rattle.mid_base.specs.declared.names.Attempt.{Attempt}
use Rattle.mid_base.specs.declared.names.CmdId.{CmdId}
use Rattle.mid_base.specs.declared.names.Tag.{Tag}
use Rattle.mid_base.specs.declared.answers.BusyOf.{BusyOf}
use Rattle.mid_base.specs.declared.answers.By.{By}
use Rattle.mid_base.specs.declared.entries.Entry.{Entry}
use Rattle.mid_base.specs.declared.entries.Entry.TheVariants as entry
use Rattle.mid_base.specs.declared.host_spec.HostSpec.{HostSpec}
use Rattle.mid_base.specs.Past.{ticks, was_sent, sent_for}
use Rattle.trace_model.specs.Names.{command}
use Rattle.trace_model.specs.Attempts.{is_open, is_due, is_said_done, sent_at, longers}
use Rattle.trace_model.specs.Time.{deadline, is_expired}
use Rattle.timer_list.specs.Timers.{Timer, deadline_of, Becomes}
use Rattle.deadline_table.specs.DeadlinesAgree.{timeout_of, IsNear, IsDueAt, IsApart, Says}
use Rattle.deadline_table.proofs.Bools.{same, differ, closed, not_now, none_due, none_done, expires, one_more}
use Rattle.deadline_table.proofs.Changes.{timed_was_sent, timer_tells, says_changed}

-- the empty journal
pub says_nothing : (s : HostSpec) → Says s [] []
says_nothing s = record { waits = λ n. refl; near = λ n at is. absurd (cc); unsent = λ n h. (refl, refl, refl, refl) }

module _ (s : HostSpec) (P : List Entry) (timers : List Timer) (run : Says s P timers) where
  -- entries that say nothing of deadlines
  pub says_apart : (e : Entry) → IsApart e → Says s (e ∷ P) timers
  says_apart (entry.Took c) apart = record { waits = run.waits; near = run.near; unsent = run.unsent }
  says_apart (entry.Ready n a) apart = record { waits = run.waits; near = run.near; unsent = run.unsent }
  says_apart (entry.Late n) apart = record { waits = run.waits; near = run.near; unsent = run.unsent }
  says_apart (entry.Judged c n d) apart = record { waits = run.waits; near = run.near; unsent = run.unsent }
  says_apart (entry.AbortSet c n) apart = record { waits = run.waits; near = run.near; unsent = run.unsent }
  says_apart (entry.Aborted c n ok) apart = record { waits = run.waits; near = run.near; unsent = run.unsent }
  says_apart (entry.Failed c n x) apart = record { waits = run.waits; near = run.near; unsent = run.unsent }
  says_apart (entry.Cleared c level) apart = record { waits = run.waits; near = run.near; unsent = run.unsent }
  says_apart (entry.Sensed c n sense) apart = record { waits = run.waits; near = run.near; unsent = run.unsent }
  says_apart (entry.Again c counted) apart = record { waits = run.waits; near = run.near; unsent = run.unsent }
  says_apart (entry.Told c a) apart = record { waits = run.waits; near = run.near; unsent = run.unsent }
  says_apart entry.EhBegin apart = record { waits = run.waits; near = run.near; unsent = run.unsent }
  says_apart entry.EhEnd apart = record { waits = run.waits; near = run.near; unsent = run.unsent }
  says_apart (entry.Act level scope ok) apart = record { waits = run.waits; near = run.near; unsent = run.unsent }
  says_apart (entry.Probe d op say) apart = record { waits = run.waits; near = run.near; unsent = run.unsent }
  says_apart (entry.Offline d) apart = record { waits = run.waits; near = run.near; unsent = run.unsent }
  says_apart (entry.State d x) apart = record { waits = run.waits; near = run.near; unsent = run.unsent }
  says_apart e apart = absurd apart

  apart_from : (n : Attempt) (m : ℕ) → m ≢ n.0 → (n.0 == m) ≡ false
  apart_from n m ne = differ (λ (e : n.0 ≡ m). ne (sym e))

  never : (s' : HostSpec) (P' : List Entry) (n at : ℕ) → ◌≡◌ {A = Option ℕ} None (Some at) → IsNear s' P' n at
  never s' P' n at is = absurd (cc)

  pub says_bounced : (c : CmdId) (n : Attempt) (why : BusyOf) (timers' : List Timer) → Becomes n.0 None timers timers' → Says s (entry.Bounced c n why ∷ P) timers'
  says_bounced c n why timers' becomes =
      let P' = entry.Bounced c n why ∷ P in
      says_changed s P timers run P' timers' n.0 None becomes (rw (same n.0) refl) (never s P' n.0) refl
      (λ m ne. (rw (apart_from n m ne) refl, refl))
      (λ m un. let was = run.unsent m un in (closed (n.0 == m) (is_open m P) was.0, was.1, was.2, was.3))

  pub says_owned : (n : Attempt) (by : By) (timers' : List Timer) → Becomes n.0 None timers timers' → Says s (entry.Owned n by ∷ P) timers'
  says_owned n by timers' becomes =
      let P' = entry.Owned n by ∷ P in
      says_changed s P timers run P' timers' n.0 None becomes (rw (same n.0) refl) (never s P' n.0) refl
      (λ m ne. (rw (apart_from n m ne) refl, refl))
      (λ m un. let was = run.unsent m un in (closed (n.0 == m) (is_open m P) was.0, was.1, was.2, was.3))

  -- an attempt that wasn't sent isn't one that waits
  not_waiting : (n : Attempt) → IsSome (deadline_of n.0 timers) → (m : ℕ) → was_sent m P ≡ false → (n.0 == m) ≡ false
  not_waiting n there m un =
      differ (λ (e : n.0 ≡ m). false≢true (sym un ∙ (ap (λ (k : ℕ). was_sent k P) (sym e) ∙ timed_was_sent s P timers run n.0 there)))

  pub says_due : (n : Attempt) (timers' : List Timer) → IsSome (deadline_of n.0 timers) → Becomes n.0 None timers timers' → Says s (entry.Due n ∷ P) timers'
  says_due n timers' there becomes =
      let P' = entry.Due n ∷ P in
      says_changed s P timers run P' timers' n.0 None becomes
      (rw (same n.0) (sym (none_due (is_open n.0 P) (is_said_done n.0 P) (Some (deadline s P n.0))))) (never s P' n.0) refl
      (λ m ne. (rw (apart_from n m ne) refl, refl))
      (λ m un. rw (not_waiting n there m un) (run.unsent m un))

  pub says_done : (n : Attempt) (timers' : List Timer) → IsSome (deadline_of n.0 timers) → Becomes n.0 None timers timers' → Says s (entry.DoneSaid n ∷ P) timers'
  says_done n timers' there becomes =
      let P' = entry.DoneSaid n ∷ P in
      says_changed s P timers run P' timers' n.0 None becomes
      (rw (same n.0) (sym (none_done (is_open n.0 P) (is_due n.0 P) (Some (deadline s P n.0))))) (never s P' n.0) refl
      (λ m ne. (rw (apart_from n m ne) refl, refl))
      (λ m un. rw (not_waiting n there m un) (run.unsent m un))

  pub says_longer : (n : Attempt) (now time : ℕ) (timers' : List Timer) → IsDueAt n.0 now timers → ticks P ≡ now → timeout_of s P n.0 ≡ time
      → Becomes n.0 (Some (now + time)) timers timers' → Says s (entry.Longer n ∷ P) timers'
  says_longer n now time timers' is clock timeout becomes =
      let P' = entry.Longer n ∷ P in
      let there : IsSome (deadline_of n.0 timers) = ap (λ (x : Option ℕ). is_some x) is.1 in
      let told = timer_tells s P timers run n.0 is.0 is.1 in
      let near = run.near n.0 is.0 is.1 in
      let later : sent_at n.0 P + timeout_of s P n.0 * (1 + (longers n.0 P + 1)) ≡ now + time =
      one_more (sent_at n.0 P) (timeout_of s P n.0) (longers n.0 P) ∙ (ap (λ (k : ℕ). k + timeout_of s P n.0) told.1 ∙ omega (arith, near, clock, timeout, is.2))
      in
      says_changed s P timers run P' timers' n.0 (Some (now + time)) becomes
      (rw (same n.0, told.0) (ap Some (sym later)))
      (λ at same_at. let here : now + time ≡ at = cc in (omega (arith, here, clock), omega (arith, here, clock, timeout))) refl
      (λ m ne. (rw (apart_from n m ne) refl, refl))
      (λ m un. rw (not_waiting n there m un) (run.unsent m un))

  pub says_sent : (c : CmdId) (n : Attempt) (t : Tag) (now time : ℕ) (timers' : List Timer) → ticks P ≡ now → was_sent n.0 P ≡ false → (command s c.0).timeout ≡ time
      → Becomes n.0 (Some (now + time)) timers timers' → Says s (entry.Sent c n t ∷ P) timers'
  says_sent c n t now time timers' clock un timeout becomes =
      let P' = entry.Sent c n t ∷ P in
      let was = run.unsent n.0 un in
      let own : timeout_of s P' n.0 ≡ (command s c.0).timeout = ap (λ (b : Bool). (command s (if b then c.0 else sent_for n.0 P)).timeout) (same n.0) in
      let sent : ticks P + (command s c.0).timeout * 1 ≡ now + time = omega (arith, clock, timeout) in
      says_changed s P timers run P' timers' n.0 (Some (now + time)) becomes
      (rw (same n.0, was.1, was.2, was.3) (ap Some (sym sent)))
      (λ at same_at. let here : now + time ≡ at = cc in
      (omega (arith, here, clock), subst (λ (k : ℕ). at ≤ ticks P + k) (sym own) (omega (arith, here, clock, timeout)))) refl
      (λ m ne. (rw (apart_from n m ne) refl, ap (λ (b : Bool). (command s (if b then c.0 else sent_for m P)).timeout) (apart_from n m ne)))
      (λ m unsent. let parts = not_now (n.0 == m) (was_sent m P) unsent in rw parts.0 (run.unsent m parts.1))

  -- a tick, where no attempt is expired
  pub says_tick : ((n : ℕ) → is_expired s P n ≡ false) → Says s (entry.Tick ∷ P) timers
  says_tick none = record { waits = run.waits; near = later; unsent = run.unsent }
    where
      later : (n at : ℕ) → deadline_of n timers ≡ Some at → IsNear s (entry.Tick ∷ P) n at
      later n at is =
          let told = timer_tells s P timers run n at is in
          let near = run.near n at is in
          elim (cases_Bool (nat_le (deadline s P n) (ticks P))) as (λ _. IsNear s (entry.Tick ∷ P) n at) [
            | inl over ↦ absurd (false≢true (sym (none n) ∙ expires (is_open n P) (nat_le (deadline s P n) (ticks P)) (is_due n P) (is_said_done n P) told.0 over))
            | inr isnt ↦ let after : ticks P < deadline s P n = leb-false (deadline s P n) (ticks P) isnt in (omega (arith, after, told.1), omega (arith, near))
          ]
