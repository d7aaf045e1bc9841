-- The step that a phase comes to next.
use Rattle.std.proofs.Common.{◌≡◌, ℕ, suc, ◌<◌, ◌≤◌, Bool, true, false, not, ◌&&◌, ◌||◌, ◌==◌, List, [], ◌∷◌, Option, None, Some, is_some, refl, sym, ap, ◌∙◌, subst, inl, inr, arith}
use Rattle.std.specs.Prelude.{is_none, nat_lt, if◌then◌else◌}
use Rattle.std.proofs.lemmas.Bool.{cases_Bool, lt-ltb}
use Rattle.std.proofs.lemmas.Bool.Decides.{nat_tests}
use Rattle.mid_base.specs.declared.names.Attempt.{Attempt}
use Rattle.mid_base.specs.declared.answers.By.{By}
use Rattle.mid_base.specs.declared.answers.By.TheVariants.{Answer as ByAnswer, Expiry as ByExpiry}
use Rattle.mid_base.specs.declared.entries.Entry.{Entry}
use Rattle.mid_base.specs.declared.steps.Step.{Step}
use Rattle.mid_base.specs.declared.steps.Step.TheVariants.{Own, Settle, Drop}
use Rattle.mid_base.specs.declared.steps.Why.{Why}
use Rattle.mid_base.specs.declared.host_spec.HostSpec.{HostSpec}
use Rattle.trace_model.specs.Attempts.{is_open, is_answered, is_due, owner, is_settled, late}
use Rattle.trace_model.specs.Claims.{IsNextLate}
use Rattle.trace_model.specs.Steps.{barred}
use Rattle.attempt_table.specs.Claims.{IsNextOwned, is_unsettled, waits_for}
use Rattle.drain_rounds.specs.Making.{HostRun}
use Rattle.drain_rounds.specs.Rounds.{alone, for_each, last_named, named}
use Rattle.play_sched.specs.declared.phases.Phase.TheVariants as phase
use Rattle.play_sched.specs.Phases.{IsNext, phase_of, unless_barred}
use Rattle.play_sched.specs.Rest.{IsFirstClaim, stops_none}
use Rattle.play_sched.proofs.Finds.{none_below, least_below}
use Rattle.play_sched.proofs.Named.{open_named, owned_named, late_named}

unbarred : (t : Step) (w : Option Why) → (if is_none w then Some t else None) ≡ unless_barred w t
unbarred t None = refl
unbarred t (Some why) = refl

-- a phase of one step
pub alone_next : (t : Step) (run : HostRun) → stops_none t ≡ true → IsNext (alone t) run (Some t)
alone_next t run none = (none, λ due. unbarred t (barred run.spec due run.entries t))

free_is : (t : Step) (w : Option Why) → is_none w ≡ true → unless_barred w t ≡ Some t
free_is t None h = refl
free_is t (Some why) h = absurd (cc h)

-- a phase of the attempts of which a test says whether their step is barred
module _ (make : Attempt → Step) (test : ℕ → Bool) (run : HostRun)
    (free : (due : Bool) (n : ℕ) → is_none (barred run.spec due run.entries (make (record { 0 = n }))) ≡ test n)
    (known : (n : ℕ) → test n ≡ true → n ≤ last_named run.entries) where
  pub none_next : ((n : ℕ) → test n ≡ false) → IsNext (for_each make) run None
  none_next fails due =
      none_below (λ t. is_none (barred run.spec due run.entries t)) (λ n. make (record { 0 = n })) (suc (last_named run.entries)) (λ n lt. free due n ∙ fails n)

  pub some_next : (m : ℕ) → stops_none (make (record { 0 = m })) ≡ true → test m ≡ true → ((n : ℕ) → n < m → test n ≡ false) → IsNext (for_each make) run (Some (make (record { 0 = m })))
  some_next m stops passes fails = (
    stops,
    λ due.
        least_below (λ t. is_none (barred run.spec due run.entries t)) (λ n. make (record { 0 = n })) (suc (last_named run.entries)) m (omega (arith, known m passes)) (free due m ∙ passes) (λ n lt. free due n ∙ fails n lt)
        ∙ sym (free_is (make (record { 0 = m })) (barred run.spec due run.entries (make (record { 0 = m }))) (free due m ∙ passes)),
  )

both : (x y : Bool) (v w : Why) → is_none (if not x then Some v else (if not y then Some w else None)) ≡ x && y
both true true v w = refl
both true false v w = refl
both false y v w = refl

waits_named : (P : List Entry) (by : By) (n : ℕ) → waits_for P by n ≡ true → n ≤ last_named P
waits_named P ByAnswer n h = open_named n P (left (is_open n P) (is_answered n P) h)
  where
    left : (x y : Bool) → (x && y) ≡ true → x ≡ true
    left true y e = refl
    left false y e = absurd (cc e)
waits_named P ByExpiry n h = open_named n P (left (is_open n P) (is_due n P) h)
  where
    left : (x y : Bool) → (x && y) ≡ true → x ≡ true
    left true y e = refl
    left false y e = absurd (cc e)

own_free : (run : HostRun) (by : By) (due : Bool) (n : ℕ) → is_none (barred run.spec due run.entries (Own (record { 0 = n }) by)) ≡ waits_for run.entries by n
own_free run ByAnswer due n = both (is_open n run.entries) (is_answered n run.entries) _ _
own_free run ByExpiry due n = both (is_open n run.entries) (is_due n run.entries) _ _

-- the step of an attempt, where there is one
abbrev pub step_of : (Attempt → Step) → Option Attempt → Option Step
step_of make None = None
step_of make (Some n) = Some (make n)

pub claim_next : (run : HostRun) (by : By) (found : Option Attempt) → IsFirstClaim by run.entries found → IsNext (for_each (λ n. Own n by)) run (step_of (λ n. Own n by) found)
claim_next run by None fails = none_next (λ n. Own n by) (waits_for run.entries by) run (own_free run by) (waits_named run.entries by) fails
claim_next run by (Some m) is = some_next (λ n. Own n by) (waits_for run.entries by) run (own_free run by) (waits_named run.entries by) m.0 refl is.0 is.1

settled_or : (x y : Bool) (v : Why) → is_none (if x || y then Some v else None) ≡ not x && not y
settled_or true y v = refl
settled_or false true v = refl
settled_or false false v = refl

some_not_none : (o : Option By) → not (is_none o) ≡ is_some o
some_not_none None = refl
some_not_none (Some by) = refl

settle_free : (run : HostRun) (due : Bool) (n : ℕ) → is_none (barred run.spec due run.entries (Settle (record { 0 = n }))) ≡ is_unsettled n run.entries
settle_free run due n =
    settled_or (is_none (owner n run.entries)) (is_settled n run.entries) _
    ∙ ap (λ (x : Bool). x && not (is_settled n run.entries)) (some_not_none (owner n run.entries))

unsettled_named : (run : HostRun) (n : ℕ) → is_unsettled n run.entries ≡ true → n ≤ last_named run.entries
unsettled_named run n h = owned_named n run.entries (left (is_some (owner n run.entries)) (not (is_settled n run.entries)) h)
  where
    left : (x y : Bool) → (x && y) ≡ true → x ≡ true
    left true y e = refl
    left false y e = absurd (cc e)

pub settle_next : (run : HostRun) (found : Option Attempt) → IsNextOwned run.entries found → IsNext (for_each Settle) run (step_of Settle found)
settle_next run None fails = none_next Settle (λ n. is_unsettled n run.entries) run (settle_free run) (unsettled_named run) fails
settle_next run (Some m) is = some_next Settle (λ n. is_unsettled n run.entries) run (settle_free run) (unsettled_named run) m.0 refl is.0 is.1

late_test : (k : ℕ) (v : Why) → is_none (if k == 0 then Some v else None) ≡ nat_lt 0 k
late_test k v = grind (arith, nat_tests)

pub drop_next : (run : HostRun) (found : Option Attempt) → IsNextLate run.entries found → IsNext (for_each Drop) run (step_of Drop found)
drop_next run None fails =
    none_next Drop (λ n. nat_lt 0 (late n run.entries)) run (λ due n. late_test (late n run.entries) _) (λ n h. late_named n run.entries h)
    (λ n. rw (fails n) refl)
drop_next run (Some m) is =
    some_next Drop (λ n. nat_lt 0 (late n run.entries)) run (λ due n. late_test (late n run.entries) _) (λ n h. late_named n run.entries h) m.0 refl
    (lt-ltb 0 (late m.0 run.entries) is.0) (λ n lt. rw (is.1 n lt) refl)

pub phase_claim : (by : By) → phase_of (phase.Claim by) ≡ for_each (λ n. Own n by)
phase_claim ByAnswer = refl
phase_claim ByExpiry = refl
