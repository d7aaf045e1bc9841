-- EhFlush: the first failed command has a verdict.
use Rattle.std.proofs.Common.{eq-eqb, ◌≡◌, ℕ, Bool, true, false, not, ◌&&◌, ◌||◌, cond, filter, map, List, [], ◌∷◌, refl, sym, subst, ⊎_elim, is_some, Option, None, Some}
use Rattle.std.proofs.lemmas.Bool.{eqb-true, cases_Bool, and_parts, and_from, not-false, not_from_true}
use Rattle.mid_base.specs.declared.answers.Answer.{Answer}
use Rattle.mid_base.specs.declared.answers.By.{By}
use Rattle.mid_base.specs.declared.answers.By.TheVariants.{Answer as ByAnswer, Expiry as ByExpiry}
use Rattle.mid_base.specs.declared.entries.Entry.{Entry}
use Rattle.mid_base.specs.declared.entries.Entry.TheVariants.{Cleared, Again, Told}
use Rattle.mid_base.specs.declared.steps.Step.TheVariants.{EhFlush}
use Rattle.mid_base.specs.declared.steps.Why.{Why}
use Rattle.mid_base.specs.declared.steps.Why.TheVariants.{EhIdle, LadderOpen, FlushDone}
use Rattle.mid_base.specs.declared.host_spec.HostSpec.{HostSpec}
use Rattle.mid_base.specs.Answers.{no_connect}
use Rattle.mid_base.specs.Past.{attempt_of}
use Rattle.disposition.specs.declared.todo.Todo.{Todo}
use Rattle.trace_model.specs.Attempts.{answer, owner, is_by_answer}
use Rattle.trace_model.specs.Devices.{has_begun}
use Rattle.trace_model.specs.Sending.{is_refused, is_stranded}
use Rattle.trace_model.specs.Recovery.{Failure, failed, todo, todo_of, is_cleared}
use Rattle.trace_model.specs.Flush.{by_owner, last_own, verdict_by, verdict, is_empty, is_first_failed, is_flushed, is_saved}
use Rattle.trace_model.specs.Rules.{Allowed}
use Rattle.trace_model.specs.Steps.{opens}
use Rattle.trace_model.specs.Legal.{EachStands}
use Rattle.trace_model.proofs.Stage.{stage, failing, has_failure}
use Rattle.trace_model.proofs.OnceMore.{held_all}
use Rattle.step_laws.specs.Enabled.{IsEnabled, IsRightlyBarred}
use Rattle.step_laws.proofs.Causes.{passed, passes}
use Rattle.step_laws.proofs.Rests.{Runs, rests}
use Rattle.step_laws.proofs.Settles.{owned_answer, there}
use Rattle.step_laws.proofs.Clears.{was_cleared, last_cleared}

some_first : (fs : List Failure) → is_empty fs ≡ false → (f : Failure) × (is_first_failed f.cmd.0 fs ≡ true)
some_first [] h = cc h
some_first (f ∷ fs) h = (f, eq-eqb f.cmd.0 f.cmd.0 refl)

first_some : (c : ℕ) (fs : List Failure) → is_first_failed c fs ≡ true → is_empty fs ≡ false
first_some c [] h = cc h
first_some c (f ∷ fs) h = refl

first_has : (c : ℕ) (fs : List Failure) → is_first_failed c fs ≡ true → (n : ℕ) × (has_failure c n fs ≡ true)
first_has c [] h = cc h
first_has c (f ∷ fs) h = (f.attempt.0, rw (h, eq-eqb f.attempt.0 f.attempt.0 refl) refl)

first_cleared : (s : HostSpec) (P : List Entry) (c : ℕ) (fs : List Failure) → is_first_failed c fs ≡ true → is_empty (filter (λ (x : Todo). not (is_cleared x.cmd.0 P)) (map (todo_of s P) fs)) ≡ true → is_cleared c P ≡ true
first_cleared s P c [] h e = cc h
first_cleared s P c (f ∷ fs) h e = ⊎_elim
    (λ yes. absurd (cc (rw yes at e)))
    (λ no. subst (λ (k : ℕ). is_cleared k P ≡ true) (eqb-true f.cmd.0 c h) (not-false _ no))
    (cases_Bool (not (is_cleared f.cmd.0 P)))

owner_verdict : (o : Option By) (a : Option Answer) → is_some o ≡ true → (is_by_answer o ≡ true → is_some a ≡ true) → is_some (by_owner o a) ≡ true
owner_verdict None a h f = cc h
owner_verdict (Some ByAnswer) a h f = f refl
owner_verdict (Some ByExpiry) a h f = refl

cleared_verdict : (o : Option Entry) (n : ℕ) (P : List Entry) → was_cleared o ≡ true → verdict_by o n P ≡ by_owner (owner n P) (answer n P)
cleared_verdict None n P h = cc h
cleared_verdict (Some (Cleared c level)) n P h = refl
cleared_verdict (Some e) n P h = cc h

-- the first failed command has a verdict
flushed_verdict : (s : HostSpec) (P : List Entry) (c : ℕ) → EachStands s P → is_flushed s P c ≡ true → is_some (verdict c P) ≡ true
flushed_verdict s P c each h =
    let two = and_parts (has_begun P && is_empty (todo s P)) (is_first_failed c (failed P)) h in
    let one = and_parts (has_begun P) (is_empty (todo s P)) two.0 in
    let f = first_has c (failed P) two.1 in
    let failing_now : stage c P ≡ failing f.0 = (held_all s c P each).1 f.0 f.1 in
    let runs : Runs c P (failing f.0) = subst (Runs c P) failing_now (rests s c P each).2 in
    let last : was_cleared (last_own c P) ≡ true = last_cleared s c P each one.0 (first_cleared s P c (failed P) two.1 one.1) f.0 failing_now in
    let a : ℕ = attempt_of c P in
    let owned_by : is_some (owner a P) ≡ true = subst (λ (n : ℕ). is_some (owner n P) ≡ true) (sym runs.0) runs.1 in
    subst (λ (v : Option Answer). is_some v ≡ true) (sym (cleared_verdict (last_own c P) a P last)) (owner_verdict (owner a P) (answer a P) owned_by (owned_answer s a P each))

told_verdict : (early flushed saved : Bool) (x : Answer) (v : Option Answer) (a : Answer) → early ≡ false → flushed ≡ true → saved ≡ false → v ≡ Some a
    → cond early (Some x) (cond (flushed && not saved) v None) ≡ Some a
told_verdict false true false x v a e f g h = h
told_verdict true b d x v a e f g h = cc e
told_verdict false false d x v a e f g h = cc f
told_verdict false true true x v a e f g h = cc g

flush_yes : (s : HostSpec) (P : List Entry) → EachStands s P → has_begun P ≡ true → is_empty (todo s P) ≡ true → is_empty (failed P) ≡ false → IsEnabled s P EhFlush
flush_yes s P each b t f =
    let first = some_first (failed P) f in
    let c : ℕ = first.0.cmd.0 in
    let flushed : is_flushed s P c ≡ true = and_from (has_begun P && is_empty (todo s P)) _ (and_from (has_begun P) _ b t) first.1 in
    ⊎_elim
    (λ early. record { opener = Told first.0.cmd no_connect; opens_it = flushed; may_stand = rw early refl })
    (λ no. ⊎_elim
    (λ saved. record { opener = Again first.0.cmd true; opens_it = refl; may_stand = and_from (true && is_flushed s P c) _ flushed saved })
    (λ lost.
    let v = there (verdict c P) (flushed_verdict s P c each flushed) in
    record { opener = Told first.0.cmd v.0; opens_it = flushed; may_stand = told_verdict (is_refused s P c || is_stranded s P c) (is_flushed s P c) (is_saved s P c) no_connect (verdict c P) v.0 no flushed lost v.1 })
    (cases_Bool (is_saved s P c)))
    (cases_Bool (is_refused s P c || is_stranded s P c))

flushed_open : (s : HostSpec) (P : List Entry) (c : ℕ) → is_flushed s P c ≡ true → (not (has_begun P) ≡ false) × (not (is_empty (todo s P)) ≡ false) × (is_empty (failed P) ≡ false)
flushed_open s P c h =
    let two = and_parts (has_begun P && is_empty (todo s P)) (is_first_failed c (failed P)) h in
    let one = and_parts (has_begun P) (is_empty (todo s P)) two.0 in
    (not_from_true _ one.0, not_from_true _ one.1, first_some c (failed P) two.1)

flush_no : (s : HostSpec) (P : List Entry) (e : Entry) → opens s P EhFlush e ≡ true → Allowed s P e → (not (has_begun P) ≡ false) × (not (is_empty (todo s P)) ≡ false) × (is_empty (failed P) ≡ false)
flush_no s P (Again c x) o al = flushed_open s P c.0 (and_parts x (is_flushed s P c.0) (and_parts (x && is_flushed s P c.0) _ al).0).1
flush_no s P (Told c a) o al = flushed_open s P c.0 o
flush_no s P e o al = cc o

pub flushes : (s : HostSpec) (P : List Entry) → EachStands s P → IsRightlyBarred s P EhFlush
flushes s P each due =
    let last : List (Bool × Why) = (is_empty (failed P), FlushDone) ∷ [] in
    let later : List (Bool × Why) = (not (is_empty (todo s P)), LadderOpen) ∷ last in (
      λ h. let x = passed (not (has_begun P)) EhIdle later refl h in
          let y = passed (not (is_empty (todo s P))) LadderOpen last refl x.1 in
          let z = passed (is_empty (failed P)) FlushDone [] refl y.1 in
          (refl, flush_yes s P each (not-false _ x.0) (not-false _ y.0) z.0),
      λ h. let x = flush_no s P h.1.opener h.1.opens_it h.1.may_stand in
          passes (not (has_begun P)) EhIdle later x.0 (passes (not (is_empty (todo s P))) LadderOpen last x.1 (passes (is_empty (failed P)) FlushDone [] x.2 refl)),
    )
