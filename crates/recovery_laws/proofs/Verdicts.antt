-- What a flushed command is told, and whether it goes again.
use Rattle.std.proofs.Common.{eq-eqb, ◌≡◌, ℕ, ◌==◌, Bool, true, false, not, ◌&&◌, cond, map, filter, List, [], ◌∷◌, refl, sym, ◌∙◌, ap, subst, ⊎_elim, is_some, Option, None, Some}
use Rattle.std.proofs.lemmas.Bool.{eqb-true, cases_Bool, and_parts, and_from, not-false, or_left}
use Rattle.mid_base.specs.Past.{attempt_of}
use Rattle.mid_base.specs.declared.answers.Answer.{Answer}
use Rattle.mid_base.specs.declared.answers.By.{By}
use Rattle.mid_base.specs.declared.answers.By.TheVariants.{Answer as ByAnswer, Expiry as ByExpiry}
use Rattle.mid_base.specs.declared.answers.Disp.{Disp}
use Rattle.mid_base.specs.declared.entries.Entry.{Entry}
use Rattle.mid_base.specs.declared.entries.Entry.TheVariants.{Cleared}
use Rattle.mid_base.specs.declared.host_spec.HostSpec.{HostSpec}
use Rattle.disposition.specs.declared.todo.Todo.{Todo}
use Rattle.done_flush.specs.Verdict.{flush, told}
use Rattle.done_flush.specs.declared.flush.Flush.TheVariants as flushed
use Rattle.trace_model.specs.Attempts.{answer, owner}
use Rattle.trace_model.specs.Commands.{judgement, retries}
use Rattle.trace_model.specs.Devices.{has_begun, state}
use Rattle.trace_model.specs.Flush.{by_owner, last_own, verdict_by, verdict, is_empty, is_first_failed, is_flushed, is_saved, was_success}
use Rattle.trace_model.specs.Judging.{may_retry}
use Rattle.trace_model.specs.Legal.{EachStands}
use Rattle.trace_model.specs.Names.{command, dev_of}
use Rattle.trace_model.specs.Recovery.{Failure, failed, todo, todo_of, is_cleared}
use Rattle.trace_model.proofs.OnceMore.{held_all}
use Rattle.step_laws.proofs.Clears.{was_cleared, last_cleared}
use Rattle.recovery_laws.specs.Failed.{IsOwned, AreOwned, last_answer, succeeded}
use Rattle.verdict_table.specs.Taken.{has_failed}
use Rattle.recovery_laws.proofs.Busy.{failed_busy}
use Rattle.recovery_laws.proofs.Owned.{failed_owned}
use Rattle.recovery_laws.proofs.Unjudged.{expired_unjudged}

pub flushed_first : (s : HostSpec) (P : List Entry) (c : ℕ) (f : Failure) (fs : List Failure) → is_flushed s P c ≡ true → failed P ≡ f ∷ fs → f.cmd.0 ≡ c
flushed_first s P c f fs h e =
    eqb-true f.cmd.0 c (subst (λ (gs : List Failure). is_first_failed c gs ≡ true) e (and_parts (has_begun P && is_empty (todo s P)) (is_first_failed c (failed P)) h).1)

flushed_failed : (s : HostSpec) (P : List Entry) (c : ℕ) (f : Failure) (fs : List Failure) → is_flushed s P c ≡ true → failed P ≡ f ∷ fs → has_failed c f.attempt.0 (failed P) ≡ true
flushed_failed s P c f fs h e =
    subst (λ (gs : List Failure). has_failed c f.attempt.0 gs ≡ true) (sym e)
    (or_left ((f.cmd.0 == c) && (f.attempt.0 == f.attempt.0)) (has_failed c f.attempt.0 fs)
    (and_from (f.cmd.0 == c) (f.attempt.0 == f.attempt.0) (eq-eqb f.cmd.0 c (flushed_first s P c f fs h e)) (eq-eqb f.attempt.0 f.attempt.0 refl)))

flushed_last : (s : HostSpec) (P : List Entry) (c : ℕ) (f : Failure) (fs : List Failure) → EachStands s P → is_flushed s P c ≡ true → failed P ≡ f ∷ fs → attempt_of c P ≡ f.attempt.0
flushed_last s P c f fs each h e = (failed_busy s P c f.attempt.0 each (flushed_failed s P c f fs h e)).last

first_cleared : (s : HostSpec) (P : List Entry) (c : ℕ) (fs : List Failure) → is_first_failed c fs ≡ true → is_empty (filter (λ (x : Todo). not (is_cleared x.cmd.0 P)) (map (todo_of s P) fs)) ≡ true → is_cleared c P ≡ true
first_cleared s P c [] h e = cc h
first_cleared s P c (f ∷ fs) h e = ⊎_elim
    (λ yes. absurd (cc (rw yes at e)))
    (λ no. subst (λ (k : ℕ). is_cleared k P ≡ true) (eqb-true f.cmd.0 c h) (not-false _ no))
    (cases_Bool (not (is_cleared f.cmd.0 P)))

-- the last entry of a flushed command cleared it
flushed_clear : (s : HostSpec) (P : List Entry) (c n : ℕ) → EachStands s P → is_flushed s P c ≡ true → has_failed c n (failed P) ≡ true → was_cleared (last_own c P) ≡ true
flushed_clear s P c n each h has =
    let two = and_parts (has_begun P && is_empty (todo s P)) (is_first_failed c (failed P)) h in
    let one = and_parts (has_begun P) (is_empty (todo s P)) two.0 in
    last_cleared s c P each one.0 (first_cleared s P c (failed P) two.1 one.1) n ((held_all s c P each).1 n has)

cleared_verdict : (o : Option Entry) (n : ℕ) (P : List Entry) → was_cleared o ≡ true → verdict_by o n P ≡ by_owner (owner n P) (answer n P)
cleared_verdict None n P h = cc h
cleared_verdict (Some (Cleared c level)) n P h = refl
cleared_verdict (Some e) n P h = cc h

owner_tells : (o : Option By) (cancelled : Bool) (a : Option Answer) → o ≡ Some (cond cancelled ByExpiry ByAnswer) → (cancelled ≡ false → is_some a ≡ true) → by_owner o a ≡ Some (told (cond cancelled None a))
owner_tells o true a e h = rw e refl
owner_tells o false (Some a) e h = rw e refl
owner_tells o false None e h = absurd (cc (h refl))

pub flushed_verdict : (s : HostSpec) (P : List Entry) (c : ℕ) (f : Failure) (fs : List Failure) → EachStands s P → is_flushed s P c ≡ true → failed P ≡ f ∷ fs → verdict c P ≡ Some (told (last_answer P f))
flushed_verdict s P c f fs each h e =
    let n : ℕ = f.attempt.0 in
    let owned : IsOwned P f = (subst (λ (gs : List Failure). AreOwned P gs) e (failed_owned s P each)).0 in
    let at : verdict c P ≡ verdict_by (last_own c P) n P = ap (λ (k : ℕ). verdict_by (last_own c P) k P) (flushed_last s P c f fs each h e) in
    at ∙ (cleared_verdict (last_own c P) n P (flushed_clear s P c n each h (flushed_failed s P c f fs h e)) ∙ owner_tells (owner n P) f.cancelled (answer n P) owned.by owned.answered)

pub flushed_saved : (s : HostSpec) (P : List Entry) (c : ℕ) (f : Failure) (fs : List Failure) → EachStands s P → is_flushed s P c ≡ true → failed P ≡ f ∷ fs
    → is_saved s P c ≡ (not (was_success (judgement f.attempt.0 P)) && may_retry s P c)
flushed_saved s P c f fs each h e = ap (λ (n : ℕ). not (was_success (judgement n P)) && may_retry s P c) (flushed_last s P c f fs each h e)

pub flushed_flush : (s : HostSpec) (P : List Entry) (c : ℕ) (f : Failure) (fs : List Failure) → EachStands s P → is_flushed s P c ≡ true → failed P ≡ f ∷ fs
    → flush (command s c) (retries c P) (state s (dev_of s c) P) (last_answer P f) (was_success (judgement f.attempt.0 P))
    ≡ cond (is_saved s P c) flushed.Again (flushed.Told (told (last_answer P f)))
flushed_flush s P c f fs each h e = ap (λ (b : Bool). cond b flushed.Again (flushed.Told (told (last_answer P f)))) (sym (flushed_saved s P c f fs each h e))

-- a cancelled attempt was never judged, so it was no success
success_told : (o : Option By) (j : Option Disp) (cancelled : Bool) → o ≡ Some (cond cancelled ByExpiry ByAnswer) → (o ≡ Some ByExpiry → j ≡ None) → cond cancelled false (was_success j) ≡ was_success j
success_told o j true e h = rw (h e) refl
success_told o j false e h = refl

flushed_succeeded : (s : HostSpec) (P : List Entry) (f : Failure) (fs : List Failure) → EachStands s P → failed P ≡ f ∷ fs → succeeded P f ≡ was_success (judgement f.attempt.0 P)
flushed_succeeded s P f fs each e =
    let n : ℕ = f.attempt.0 in
    let owned : IsOwned P f = (subst (λ (gs : List Failure). AreOwned P gs) e (failed_owned s P each)).0 in
    success_told (owner n P) (judgement n P) f.cancelled owned.by (expired_unjudged s P n each)

pub flushed_saved_by : (s : HostSpec) (P : List Entry) (c : ℕ) (f : Failure) (fs : List Failure) → EachStands s P → is_flushed s P c ≡ true → failed P ≡ f ∷ fs
    → is_saved s P c ≡ (not (succeeded P f) && may_retry s P c)
flushed_saved_by s P c f fs each h e = flushed_saved s P c f fs each h e ∙ ap (λ (b : Bool). not b && may_retry s P c) (sym (flushed_succeeded s P f fs each e))

pub flushed_flush_by : (s : HostSpec) (P : List Entry) (c : ℕ) (f : Failure) (fs : List Failure) → EachStands s P → is_flushed s P c ≡ true → failed P ≡ f ∷ fs
    → flush (command s c) (retries c P) (state s (dev_of s c) P) (last_answer P f) (succeeded P f)
    ≡ cond (is_saved s P c) flushed.Again (flushed.Told (told (last_answer P f)))
flushed_flush_by s P c f fs each h e =
    ap (λ (b : Bool). flush (command s c) (retries c P) (state s (dev_of s c) P) (last_answer P f) b) (flushed_succeeded s P f fs each e) ∙ flushed_flush s P c f fs each h e
