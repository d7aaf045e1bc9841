-- A command that is to wait again has no held attempt.
use Rattle.std.proofs.Common.{◌≡◌, ℕ, ◌==◌, Bool, true, false, not, ◌&&◌, map, filter, List, [], ◌∷◌, Option, None, Some, sym, subst, ◌∙◌, ⊎_elim}
use Rattle.std.proofs.lemmas.Bool.{and_parts, false≢true, cases_Bool, eqb-true}
use Rattle.mid_base.specs.declared.answers.Answer.{Answer}
use Rattle.mid_base.specs.declared.answers.Disp.{Disp}
use Rattle.mid_base.specs.declared.entries.Entry.{Entry}
use Rattle.mid_base.specs.declared.host_spec.HostSpec.{HostSpec}
use Rattle.mid_base.specs.declared.names.Tag.{Tag}
use Rattle.mid_base.specs.Past.{sent_for, attempt_of}
use Rattle.disposition.specs.declared.todo.Todo.{Todo}
use Rattle.disposition.specs.Disp.{among}
use Rattle.host_template.specs.Meaning.{Meaning, Holds, IsFree}
use Rattle.trace_model.specs.declared.standing.Standing.TheVariants.{Busy}
use Rattle.trace_model.specs.Attempts.{answer, is_answered, owner, is_by_answer, is_settled}
use Rattle.trace_model.specs.Commands.{standing, is_busy, aborts}
use Rattle.trace_model.specs.Devices.{has_begun, is_online}
use Rattle.trace_model.specs.Flush.{is_empty, is_first_failed, is_flushed, is_saved}
use Rattle.trace_model.specs.Judging.{to_judge, may_abort, may_retry, retries_remain, is_first}
use Rattle.trace_model.specs.Legal.{EachStands}
use Rattle.trace_model.specs.Names.{dev_of, command}
use Rattle.trace_model.specs.Recovery.{Failure, failed, is_cleared, todo, todo_of}
use Rattle.trace_model.specs.Rules.{MayJudge}
use Rattle.trace_model.proofs.Stage.{owned, aborting, stage, unsettled}
use Rattle.trace_model.proofs.Once.{judge_fits, is_first_among}
use Rattle.trace_model.proofs.OnceMore.{held_all, busy_now}
use Rattle.step_laws.proofs.Rests.{Runs, rests}
use Rattle.recovery_laws.proofs.Sent.{busy_tag}
use Rattle.held_laws.specs.Held.{Held, HoldsRight, NoneHeld}
use Rattle.held_laws.proofs.Entries.{busy_only}
use Rattle.held_laws.proofs.Answered.{owned_answered}

-- c is busy with n
abbrev pub IsWith : List Entry → ℕ → ℕ → Type 0
IsWith P c n = (t : Tag) × (standing c P ≡ Busy (record { 0 = n }) t)

last_with : (c n : ℕ) (P : List Entry) → is_busy (standing c P) ≡ true → attempt_of c P ≡ n → IsWith P c n
last_with c n P busy last = let b = busy_tag c P busy in (b.0, subst (λ (k : ℕ). standing c P ≡ Busy (record { 0 = k }) b.0) last b.1)

-- a command of which an attempt is owned and not settled, or is to be aborted, is busy with it
pub owned_with : (s : HostSpec) (P : List Entry) (c n : ℕ) → EachStands s P → unsettled n P ≡ true → sent_for n P ≡ c → IsWith P c n
owned_with s P c n each u for_it =
    let held = held_all s c P each in
    let at : stage c P ≡ owned n = (held.0 n for_it).1 u in
    let runs : Runs c P (owned n) = subst (Runs c P) at (rests s c P each).2 in
    last_with c n P (busy_now c P (λ i. cc (sym i ∙ at)) held.2) runs.0

pub aborting_with : (s : HostSpec) (P : List Entry) (c n : ℕ) → EachStands s P → among n (aborts P) ≡ true → sent_for n P ≡ c → IsWith P c n
aborting_with s P c n each a for_it =
    let held = held_all s c P each in
    let at : stage c P ≡ aborting n = (held.0 n for_it).2 a in
    let runs : Runs c P (aborting n) = subst (Runs c P) at (rests s c P each).2 in
    last_with c n P (busy_now c P (λ i. cc (sym i ∙ at)) held.2) runs.0

-- so its other attempts aren't held
pub answered_none : (s : HostSpec) (P : List Entry) (c n : ℕ) (held : Held) → HoldsRight s P held → IsWith P c n → is_answered n P ≡ true → NoneHeld P c held
answered_none s P c n held h with answered m d on sent is =
    let same : m ≡ n = busy_only s P c (record { 0 = n }) with.0 held h with.1 m d on sent is in
    false≢true (sym (h m d on sent).unanswered ∙ subst (λ (k : ℕ). is_answered k P ≡ true) (sym same) answered)

pub free_none : (s : HostSpec) (P : List Entry) (c n : ℕ) (m : Meaning) → HoldsRight s P m.holds → IsWith P c n → IsFree m n → NoneHeld P c m.holds
free_none s P c n m h with free k d on sent is =
    let same : k ≡ n = busy_only s P c (record { 0 = n }) with.0 m.holds h with.1 k d on sent is in
    free d (subst (λ (i : ℕ). Holds m.holds i d) same on)

judge_answer : (s : HostSpec) (P : List Entry) (c n : ℕ) (d : Disp) (a : Option Answer) → MayJudge s P c n d a → is_by_answer (owner n P) ≡ true
judge_answer s P c n d None h = absurd h
judge_answer s P c n d (Some a) h =
    let judge = (and_parts (to_judge P c n) (not (has_begun P)) h.0).0 in
    let two = (and_parts (is_by_answer (owner n P) && not (is_settled n P)) (sent_for n P == c) judge).0 in
    (and_parts (is_by_answer (owner n P)) (not (is_settled n P)) two).0

-- where it is judged
pub judged_none : (s : HostSpec) (P : List Entry) (c n : ℕ) (d : Disp) (held : Held) → EachStands s P → HoldsRight s P held → MayJudge s P c n d (answer n P) → NoneHeld P c held
judged_none s P c n d held each h may =
    let fits = judge_fits s P c n d (answer n P) may in
    answered_none s P c n held h (owned_with s P c n each fits.0 fits.1) (owned_answered s n P each (judge_answer s P c n d (answer n P) may))

-- where it was aborted
pub aborted_none : (s : HostSpec) (P : List Entry) (c n : ℕ) (ok : Bool) (m : Meaning) → EachStands s P → HoldsRight s P m.holds → may_abort s P c n ok ≡ true → IsFree m n → NoneHeld P c m.holds
aborted_none s P c n ok m each h may free =
    let two = (and_parts (is_first n (aborts P) && (sent_for n P == c)) _ may).0 in
    let parts = and_parts (is_first n (aborts P)) (sent_for n P == c) two in
    free_none s P c n m h (aborting_with s P c n each (is_first_among n (aborts P) parts.0) (eqb-true (sent_for n P) c parts.1)) free

first_cleared : (s : HostSpec) (P : List Entry) (c : ℕ) (fs : List Failure) → is_first_failed c fs ≡ true
    → is_empty (filter (λ (x : Todo). not (is_cleared x.cmd.0 P)) (map (todo_of s P) fs)) ≡ true → is_cleared c P ≡ true
first_cleared s P c [] first none = absurd (false≢true first)
first_cleared s P c (f ∷ fs) first none = ⊎_elim
    (λ yes. subst (λ (k : ℕ). is_cleared k P ≡ true) (eqb-true f.cmd.0 c first) yes)
    (λ no. absurd (false≢true (rw no at none)))
    (cases_Bool (is_cleared f.cmd.0 P))

-- where it is sent again as recovery ends
pub flushed_none : (s : HostSpec) (P : List Entry) (c : ℕ) (held : Held) → HoldsRight s P held → is_flushed s P c ≡ true → is_saved s P c ≡ true → NoneHeld P c held
flushed_none s P c held h flushed saved n d on sent is =
    let parts = and_parts (has_begun P && is_empty (todo s P)) (is_first_failed c (failed P)) flushed in
    let two = and_parts (has_begun P) (is_empty (todo s P)) parts.0 in
    let retry = (and_parts _ (may_retry s P c) saved).1 in
    let online = (and_parts (is_online s (dev_of s c) P) _ (and_parts (is_online s (dev_of s c) P && not (command s c).failfast) (retries_remain s P c) retry).0).0 in
    let cleared : is_cleared c P ≡ true = first_cleared s P c (failed P) parts.1 two.1 in
    let off = (h n d on sent).lost two.0 (subst (λ (k : ℕ). is_cleared k P ≡ true) (sym is) cleared) in
    false≢true (sym (subst (λ (k : ℕ). is_online s (dev_of s k) P ≡ false) is off) ∙ online)
