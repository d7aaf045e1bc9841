-- What Settle and Abort begin with.
use Rattle.std.proofs.Common.{◌≡◌, ℕ, ◌==◌, Bool, true, false, not, ◌&&◌, cond, List, [], ◌∷◌, Option, None, Some, refl, sym, ap, ap₂, ◌∙◌, subst}
use Rattle.std.proofs.lemmas.Bool.{eqb-true, and_parts, not-true}
use Rattle.mid_base.specs.declared.names.CmdId.{CmdId}
use Rattle.mid_base.specs.declared.names.Attempt.{Attempt}
use Rattle.mid_base.specs.declared.answers.Answer.{Answer}
use Rattle.mid_base.specs.declared.answers.By.{By}
use Rattle.mid_base.specs.declared.answers.By.TheVariants.{Answer as ByAnswer, Expiry as ByExpiry}
use Rattle.mid_base.specs.declared.answers.Disp.{Disp}
use Rattle.mid_base.specs.declared.entries.Entry.{Entry}
use Rattle.mid_base.specs.declared.entries.Entry.TheVariants.{Judged, AbortSet, Aborted, Failed, Tick}
use Rattle.mid_base.specs.declared.steps.Step.TheVariants.{Settle, Abort}
use Rattle.mid_base.specs.declared.host_spec.HostSpec.{HostSpec}
use Rattle.mid_base.specs.Past.{sent_for}
use Rattle.mid_base.specs.Levels.{has_level}
use Rattle.host_template.specs.Standing.{Before}
use Rattle.fault_plan.specs.declared.class.Class.TheVariants.{Abort as Aborting}
use Rattle.adapter_tables.specs.Counted.{device_of}
use Rattle.trace_model.specs.Attempts.{answer, owner, is_by_answer, is_by_expiry, is_settled}
use Rattle.trace_model.specs.Commands.{aborts}
use Rattle.trace_model.specs.Devices.{has_begun}
use Rattle.trace_model.specs.Judging.{disp_of, to_judge, to_abort, has_abort_left, is_first}
use Rattle.trace_model.specs.Rules.{Allowed, MayJudge}
use Rattle.trace_model.specs.Steps.{opens}
use Rattle.debug_adapter.specs.LowerRun.{no_hit_at}
use Rattle.adds_laws.proofs.Plain.{command_is, attempt_is}
use Rattle.adds_laws.proofs.Along.{Says}

-- ---- Settle: by the owner of the attempt

abbrev of_attempt : List Entry → Attempt → CmdId
of_attempt P n = record { 0 = sent_for n.0 P }

-- a judgement on this answer
abbrev judged_by : HostSpec → List Entry → Attempt → Option Answer → Entry
judged_by s P n None = Tick
judged_by s P n (Some a) = Judged (of_attempt P n) n (disp_of s P (sent_for n.0 P) a)

abbrev settled_as : HostSpec → List Entry → Attempt → Entry
settled_as s P n =
    cond (is_by_answer (owner n.0 P)) (judged_by s P n (answer n.0 P))
    (cond (has_abort_left s P (sent_for n.0 P)) (AbortSet (of_attempt P n) n) (Failed (of_attempt P n) n true))

expiry_not : (o : Option By) → is_by_expiry o ≡ true → is_by_answer o ≡ false
expiry_not None h = refl
expiry_not (Some ByExpiry) h = refl
expiry_not (Some ByAnswer) h = cc h

judge_says : (s : HostSpec) (P : List Entry) (c : CmdId) (n : Attempt) (d : Disp) (o : Option Answer) → MayJudge s P c.0 n.0 d o
    → (is_by_answer (owner n.0 P) ≡ true) × (Judged c n d ≡ judged_by s P n o)
judge_says s P c n d None x = absurd x
judge_says s P c n d (Some a) x =
    let four = and_parts (to_judge P c.0 n.0) (not (has_begun P)) x.0 in
    let two = and_parts (is_by_answer (owner n.0 P) && not (is_settled n.0 P)) (sent_for n.0 P == c.0) four.0 in
    let one = and_parts (is_by_answer (owner n.0 P)) (not (is_settled n.0 P)) two.0 in
    let mine : sent_for n.0 P ≡ c.0 = eqb-true (sent_for n.0 P) c.0 two.1 in (
      one.0,
      ap (λ (v : Disp). Judged c n v) x.1 ∙ ap (λ (x : CmdId). Judged x n (disp_of s P x.0 a)) (command_is c (of_attempt P n) (sym mine)),
    )

abort_says : (P : List Entry) (c : CmdId) (n : Attempt) → to_abort P c.0 n.0 ≡ true → (is_by_answer (owner n.0 P) ≡ false) × (c ≡ of_attempt P n)
abort_says P c n h =
    let two = and_parts (is_by_expiry (owner n.0 P) && not (is_settled n.0 P)) (sent_for n.0 P == c.0) h in
    let one = and_parts (is_by_expiry (owner n.0 P)) (not (is_settled n.0 P)) two.0 in
    (expiry_not (owner n.0 P) one.0, command_is c (of_attempt P n) (sym (eqb-true (sent_for n.0 P) c.0 two.1)))

settle_is : (s : HostSpec) (P : List Entry) (e : Entry) (m : Attempt) → opens s P (Settle m) e ≡ true → Allowed s P e → (n : Attempt) × (n.0 ≡ m.0) × (e ≡ settled_as s P n)
settle_is s P (Judged c n d) m o al =
    let x = judge_says s P c n d (answer n.0 P) al in
    (n, eqb-true n.0 m.0 o, x.1 ∙ ap (λ (k : Bool). cond k (judged_by s P n (answer n.0 P)) (cond (has_abort_left s P (sent_for n.0 P)) (AbortSet (of_attempt P n) n) (Failed (of_attempt P n) n true))) (sym x.0))
settle_is s P (AbortSet c n) m o al =
    let parts = and_parts (to_abort P c.0 n.0) (has_abort_left s P c.0) al in
    let x = abort_says P c n parts.0 in
    let left : has_abort_left s P (sent_for n.0 P) ≡ true = subst (λ (k : CmdId). has_abort_left s P k.0 ≡ true) x.1 parts.1 in
    (n, eqb-true n.0 m.0 o, rw (x.0, left) (ap (λ (k : CmdId). AbortSet k n) x.1))
settle_is s P (Failed c n cancelled) m o al =
    let two = and_parts (cancelled && to_abort P c.0 n.0) (not (has_abort_left s P c.0)) al in
    let one = and_parts cancelled (to_abort P c.0 n.0) two.0 in
    let x = abort_says P c n one.1 in
    let left : has_abort_left s P (sent_for n.0 P) ≡ false = subst (λ (k : CmdId). has_abort_left s P k.0 ≡ false) x.1 (not-true _ two.1) in
    (n, eqb-true n.0 m.0 o, rw (x.0, left) (ap₂ (λ (k : CmdId) (u : Bool). Failed k n u) x.1 one.0))
settle_is s P e m o al = cc o

pub settles_one : (s : HostSpec) (P : List Entry) (n : Attempt) (e f : Entry) → opens s P (Settle n) e ≡ true → Allowed s P e → opens s P (Settle n) f ≡ true → Allowed s P f → e ≡ f
settles_one s P n e f o x p y =
    let a = settle_is s P e n o x in
    let c = settle_is s P f n p y in
    let same : a.0 ≡ c.0 = attempt_is a.0 c.0 (a.1 ∙ sym c.1) in
    a.2 ∙ (ap (settled_as s P) same ∙ sym c.2)

-- ---- Abort: the earliest that is scheduled

first_one : (n m : ℕ) (ns : List ℕ) → is_first n ns ≡ true → is_first m ns ≡ true → n ≡ m
first_one n m [] x y = cc x
first_one n m (k ∷ ns) x y = sym (eqb-true k n x) ∙ eqb-true k m y

abbrev aborted_as : HostSpec → Before → List Entry → Attempt → Entry
aborted_as s b P n = Aborted (of_attempt P n) n (has_level s.handlers 2 && no_hit_at s b P (device_of s (sent_for n.0 P)) Aborting)

abort_is : (s : HostSpec) (b : Before) (P : List Entry) (e : Entry) → opens s P Abort e ≡ true → Allowed s P e → Says s b P e → (n : Attempt) × (is_first n.0 (aborts P) ≡ true) × (e ≡ aborted_as s b P n)
abort_is s b P (Aborted c n ok) o al q =
    let two = and_parts (is_first n.0 (aborts P) && (sent_for n.0 P == c.0)) _ al in
    let one = and_parts (is_first n.0 (aborts P)) (sent_for n.0 P == c.0) two.0 in
    let mine : c ≡ of_attempt P n = command_is c (of_attempt P n) (sym (eqb-true (sent_for n.0 P) c.0 one.1)) in (
      n,
      one.0,
      ap (λ (u : Bool). Aborted c n u) q.0 ∙ ap (λ (k : CmdId). Aborted k n (has_level s.handlers 2 && no_hit_at s b P (device_of s k.0) Aborting)) mine,
    )
abort_is s b P e o al q = cc o

pub aborts_one : (s : HostSpec) (b : Before) (P : List Entry) (e f : Entry) → opens s P Abort e ≡ true → Allowed s P e → Says s b P e
    → opens s P Abort f ≡ true → Allowed s P f → Says s b P f → e ≡ f
aborts_one s b P e f o x q p y r =
    let a = abort_is s b P e o x q in
    let c = abort_is s b P f p y r in
    let same : a.0 ≡ c.0 = attempt_is a.0 c.0 (first_one a.0.0 c.0.0 (aborts P) a.1 c.1) in
    a.2 ∙ (ap (aborted_as s b P) same ∙ sym c.2)
