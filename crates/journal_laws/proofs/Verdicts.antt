-- Each report is the verdict on what stands before it, and the command's retries stay as they were.
use Rattle.std.proofs.Common.{eq-eqb, ◌≡◌, ℕ, ◌==◌, Bool, true, false, not, ◌&&◌, ◌||◌, cond, List, [], ◌∷◌, refl, sym, ◌∙◌, subst, ⊎_elim, Option, None, Some}
use Rattle.std.proofs.lemmas.Bool.{cases_Bool}
use Rattle.std.proofs.lemmas.Option.{none-some}
use Rattle.mid_base.specs.declared.names.CmdId.{CmdId}
use Rattle.mid_base.specs.declared.names.Attempt.{Attempt}
use Rattle.mid_base.specs.declared.answers.Answer.{Answer}
use Rattle.mid_base.specs.declared.answers.Disp.{Disp}
use Rattle.mid_base.specs.declared.answers.Disp.TheVariants.{Success, Retry, Requeue, Fail}
use Rattle.mid_base.specs.declared.entries.Entry.{Entry}
use Rattle.mid_base.specs.declared.entries.Entry.TheVariants.{Took, Bounced, Judged, Aborted, Cleared, Sensed, Again, Told, EhBegin, Act, Probe, Offline}
use Rattle.mid_base.specs.declared.host_spec.HostSpec.{HostSpec}
use Rattle.mid_base.specs.Answers.{no_connect, time_out}
use Rattle.mid_base.specs.Past.{attempt_of}
use Rattle.trace_model.specs.declared.standing.Standing.{Standing}
use Rattle.trace_model.specs.declared.standing.Standing.TheVariants.{New, Waits, Busy, Ended}
use Rattle.trace_model.specs.Names.{command}
use Rattle.trace_model.specs.Attempts.{answer}
use Rattle.trace_model.specs.Commands.{standing, is_new, waits, retries}
use Rattle.trace_model.specs.Sending.{is_refused, is_stranded}
use Rattle.trace_model.specs.Judging.{may_retry}
use Rattle.trace_model.specs.Flush.{verdict, verdict_by, last_own, is_flushed, is_saved}
use Rattle.trace_model.specs.Course.{Course, over, next, ask, fetch, after}
use Rattle.trace_model.specs.Rules.{Allowed, MayJudge, course, judged, aborted}
use Rattle.trace_model.specs.Legal.{goes_on, owed, Stands, EachStands}
use Rattle.trace_model.specs.Drained.{tellings, was_told, NoneAfterTold}
use Rattle.trace_model.proofs.Owes.{Owes, Calm, is_calm, meets_owes, after_owes, begin_calm, climb_calm}
use Rattle.trace_model.proofs.Once.{and_left, found_left, stranded_waits, or_cases, judge_fits}
use Rattle.trace_model.proofs.OnceMore.{held_all}
use Rattle.journal_laws.specs.Reports.{IsVerdict, ToldVerdicts, retries_told}
use Rattle.journal_laws.proofs.Numbered.{IsOf, numbered}
use Rattle.journal_laws.proofs.Resting.{AtRest, Rests, rests}

-- what is owed next is a verdict, or of a recovery's course
abbrev Ends : List Entry → Course → Type 0
Ends P over = Unit {0}
Ends P (next x over) = IsVerdict P x
Ends P k = Owes Calm k

calm_verdict : (P : List Entry) (e : Entry) → is_calm e ≡ true → IsVerdict P e
calm_verdict P (Judged c n d) h = tt
calm_verdict P (Cleared c level) h = tt
calm_verdict P (Sensed c n x) h = tt
calm_verdict P (Probe d code say) h = tt
calm_verdict P (Offline d) h = tt
calm_verdict P e h = cc h

calm_ends : (P : List Entry) (k : Course) → Owes Calm k → Ends P k
calm_ends P over h = tt
calm_ends P (next x over) h = calm_verdict P x h.0
calm_ends P (next x (next y k)) h = h
calm_ends P (next x (ask d code want k)) h = h
calm_ends P (next x (fetch d n k)) h = h
calm_ends P (ask d code want k) h = h
calm_ends P (fetch d n k) h = h

-- no other command's entry, and no other attempt
judged_last : (P : List Entry) (c : CmdId) (n : Attempt) (d : Disp) → last_own c.0 (Judged c n d ∷ P) ≡ Some (Judged c n d)
judged_last P c n d = rw (eq-eqb c.0 c.0 refl) refl

aborted_last : (P : List Entry) (c : CmdId) (n : Attempt) (ok : Bool) → last_own c.0 (Aborted c n ok ∷ P) ≡ Some (Aborted c n ok)
aborted_last P c n ok = rw (eq-eqb c.0 c.0 refl) refl

judged_verdict : (P : List Entry) (c : CmdId) (n : Attempt) (d : Disp) (a : Answer) → n.0 ≡ attempt_of c.0 P → answer n.0 P ≡ Some a → verdict c.0 (Judged c n d ∷ P) ≡ Some a
judged_verdict P c n d a e h = rw (judged_last P c n d) (subst (λ m. answer m P ≡ Some a) e h)

judged_ends : (P : List Entry) (c : CmdId) (n : Attempt) (d : Disp) (a : Option Answer) → n.0 ≡ attempt_of c.0 P → answer n.0 P ≡ a → Ends (Judged c n d ∷ P) (judged c n d a)
judged_ends P c n Success (Some a) e h = judged_verdict P c n Success a e h
judged_ends P c n Success None e h = tt
judged_ends P c n Retry a e h = tt
judged_ends P c n Requeue a e h = tt
judged_ends P c n Fail a e h = tt

aborted_verdict : (P : List Entry) (c : CmdId) (n : Attempt) (b : Bool) → IsVerdict (Aborted c n true ∷ P) (cond b (Again c true) (Told c time_out))
aborted_verdict P c n true = tt
aborted_verdict P c n false = rw (aborted_last P c n true) refl

aborted_ends : (s : HostSpec) (P : List Entry) (c : CmdId) (n : Attempt) (ok : Bool) → Ends (Aborted c n ok ∷ P) (aborted s P c n ok)
aborted_ends s P c n true = aborted_verdict P c n (may_retry s P c.0)
aborted_ends s P c n false = tt

judged_attempt : (s : HostSpec) (P : List Entry) (c : CmdId) (n : Attempt) (d : Disp) → EachStands s P → MayJudge s P c.0 n.0 d (answer n.0 P) → n.0 ≡ attempt_of c.0 P
judged_attempt s P c n d each may =
    let u = judge_fits s P c.0 n.0 d (answer n.0 P) may in
    subst (IsOf (attempt_of c.0 P)) (((held_all s c.0 P each).0 n.0 u.1).1 u.0) (numbered s c.0 P each)

course_ends : (s : HostSpec) (P : List Entry) (e : Entry) → EachStands s P → Allowed s P e → Ends (e ∷ P) (course s P e)
course_ends s P (Judged c n d) each al = judged_ends P c n d (answer n.0 P) (judged_attempt s P c n d each al) refl
course_ends s P (Aborted c n ok) each al = aborted_ends s P c n ok
course_ends s P EhBegin each al = calm_ends (EhBegin ∷ P) (course s P EhBegin) (begin_calm s P)
course_ends s P (Act level scope ok) each al = calm_ends (Act level scope ok ∷ P) (course s P (Act level scope ok)) (climb_calm s P level scope ok)
course_ends s P e each al = tt

goes_ends : (s : HostSpec) (P : List Entry) (k : Course) (e : Entry) → EachStands s P → Ends P k → Stands k s P e → Ends (e ∷ P) (goes_on k s P e)
goes_ends s P over e each o st = course_ends s P e each st
goes_ends s P (next x over) e each o st = tt
goes_ends s P (next x (next y k)) e each o st = calm_ends (e ∷ P) (next y k) o.1
goes_ends s P (next x (ask d code want k)) e each o st = calm_ends (e ∷ P) (ask d code want k) o.1
goes_ends s P (next x (fetch d n k)) e each o st = calm_ends (e ∷ P) (fetch d n k) o.1
goes_ends s P (ask d code want k) e each o st = calm_ends (e ∷ P) (after (ask d code want k) e) (after_owes Calm (ask d code want k) e o)
goes_ends s P (fetch d n k) e each o st = calm_ends (e ∷ P) (after (fetch d n k) e) (after_owes Calm (fetch d n k) e o)

owed_ends : (s : HostSpec) (P : List Entry) → EachStands s P → Ends P (owed s P)
owed_ends s [] each = tt
owed_ends s (e ∷ P) each = goes_ends s P (owed s P) e each.1 (owed_ends s P each.1) each.0

-- a report that opens a group
rest_verdict : (o : Option Entry) (n : ℕ) (P : List Entry) → AtRest o → verdict_by o n P ≡ Some no_connect
rest_verdict None n P h = refl
rest_verdict (Some (Took c)) n P h = refl
rest_verdict (Some (Bounced c m why)) n P h = refl
rest_verdict (Some (Again c x)) n P h = refl
rest_verdict (Some e) n P h = absurd h

new_rest : (x : Standing) (o : Option Entry) → is_new x ≡ true → Rests x o → AtRest o
new_rest New o e h = h
new_rest Waits o e h = h
new_rest (Busy n t) o e h = cc e
new_rest Ended o e h = cc e

waits_rest : (x : Standing) (o : Option Entry) → waits x ≡ true → Rests x o → AtRest o
waits_rest New o e h = h
waits_rest Waits o e h = h
waits_rest (Busy n t) o e h = cc e
waits_rest Ended o e h = cc e

kept_from : (s : HostSpec) (P : List Entry) (c : ℕ) → EachStands s P → is_refused s P c || is_stranded s P c ≡ true → verdict c P ≡ Some no_connect
kept_from s P c each h = rest_verdict (last_own c P) (attempt_of c P) P (⊎_elim
    (λ q. new_rest (standing c P) (last_own c P) (found_left c (command s c).lane.0 P s.cmds (and_left _ _ q)) (rests s c P each))
    (λ q. waits_rest (standing c P) (last_own c P) (stranded_waits s c P q) (rests s c P each))
    (or_cases (is_refused s P c) (is_stranded s P c) h))

told_verdict : (r f : Bool) (v : Option Answer) (a : Answer) → (r ≡ true → v ≡ Some no_connect) → cond r (Some no_connect) (cond f v None) ≡ Some a → v ≡ Some a
told_verdict true f v a h e = h refl ∙ e
told_verdict false true v a h e = e
told_verdict false false v a h e = absurd (none-some a e)

opener_verdict : (s : HostSpec) (P : List Entry) (e : Entry) → EachStands s P → Allowed s P e → IsVerdict P e
opener_verdict s P (Told c a) each al =
    told_verdict (is_refused s P c.0 || is_stranded s P c.0) (is_flushed s P c.0 && not (is_saved s P c.0)) (verdict c.0 P) a (kept_from s P c.0 each) al
opener_verdict s P e each al = tt

stands_verdict : (s : HostSpec) (P : List Entry) (k : Course) (e : Entry) → EachStands s P → Ends P k → Stands k s P e → IsVerdict P e
stands_verdict s P over e each o st = opener_verdict s P e each st
stands_verdict s P (next x over) e each o st = subst (IsVerdict P) (sym st) o
stands_verdict s P (next x (next y k)) e each o st = calm_verdict P e (meets_owes Calm (next x (next y k)) e o st)
stands_verdict s P (next x (ask d code want k)) e each o st = calm_verdict P e (meets_owes Calm (next x (ask d code want k)) e o st)
stands_verdict s P (next x (fetch d n k)) e each o st = calm_verdict P e (meets_owes Calm (next x (fetch d n k)) e o st)
stands_verdict s P (ask d code want k) e each o st = calm_verdict P e (meets_owes Calm (ask d code want k) e o st)
stands_verdict s P (fetch d n k) e each o st = calm_verdict P e (meets_owes Calm (fetch d n k) e o st)

pub told_verdicts : (s : HostSpec) (P : List Entry) → EachStands s P → ToldVerdicts P
told_verdicts s [] each = tt
told_verdicts s (e ∷ P) each = (stands_verdict s P (owed s P) e each.1 (owed_ends s P each.1) each.0, told_verdicts s P each.1)

-- the retries of a command that was told
told_not_zero : (n : ℕ) → not (n == 0) ≡ true → n ≡ 0 → ⊥
told_not_zero n h e = cc (rw (eq-eqb n 0 e) at h)

pub retries_stay : (c : ℕ) (P : List Entry) → NoneAfterTold c P → was_told c P ≡ true → retries c P ≡ retries_told c P
retries_stay c [] none h = refl
retries_stay c (Told d a ∷ P) none h = ⊎_elim (λ yes. rw yes refl) (λ no. rw no (retries_stay c P none.1 (rw no at h))) (cases_Bool (d.0 == c))
retries_stay c (Again d true ∷ P) none h = ⊎_elim (λ yes. absurd (told_not_zero (tellings c P) h (none.0 yes))) (λ no. rw no (retries_stay c P none.1 h)) (cases_Bool (d.0 == c))
retries_stay c (e ∷ P) none h = retries_stay c P none.1 h
