-- What each entry does to the rows of the failed commands.
use Rattle.std.proofs.Common.{◌≡◌, ◌∙◌, sym, ap, ap₂, refl, ℕ, ◌==◌, Bool, true, false, not, ◌&&◌, ◌||◌, List, [], ◌∷◌, map, inl, inr}
use Rattle.std.specs.Prelude.{cond, filter, Option, None, Some, option_map}
use Rattle.std.specs.List.{All, list_any}
use Rattle.std.proofs.lemmas.Bool.{cases_Bool, false≢true, and_from, eq-eqb}
use Rattle.std.proofs.lemmas.List.Elements.{All-nil, All-cons, All-head, All-tail, All-weaker}
use Rattle.mid_base.specs.declared.answers.Answer.{Answer}
use Rattle.mid_base.specs.declared.answers.Disp.{Disp}
use Rattle.mid_base.specs.declared.bytes.SenseBytes.{SenseBytes}
use Rattle.mid_base.specs.declared.names.Attempt.{Attempt}
use Rattle.mid_base.specs.declared.names.CmdId.{CmdId}
use Rattle.mid_base.specs.declared.entries.Entry.{Entry}
use Rattle.mid_base.specs.declared.entries.Entry.TheVariants as entry
use Rattle.mid_base.specs.Answers.{with_sense}
use Rattle.mid_base.specs.Past.{was_sent}
use Rattle.disposition.specs.Disp.{is_success}
use Rattle.trace_model.specs.Attempts.{is_open, is_answered, answer}
use Rattle.trace_model.specs.Commands.{judgement}
use Rattle.trace_model.specs.Flush.{was_success}
use Rattle.trace_model.specs.Recovery.{Failure}
use Rattle.verdict_table.specs.declared.verdicts.FailedRow.{FailedRow}
use Rattle.verdict_table.specs.Taken.{has_failed}
use Rattle.verdict_table.specs.VerdictsAgree.{row_of, IsShut, without, sensed, judged}

-- rows that are made alike
pub map_alike : (f g : Failure → FailedRow) (P : List Entry) (fs : List Failure) → ((x : Failure) → IsShut P x → f x ≡ g x) → All (IsShut P) fs → map f fs ≡ map g fs
map_alike f g P [] alike shut = refl
map_alike f g P (x ∷ xs) alike shut =
    ap₂ (λ (y : FailedRow) (ys : List FailedRow). y ∷ ys) (alike x (All-head (IsShut P) x xs shut)) (map_alike f g P xs alike (All-tail (IsShut P) x xs shut))

-- rows that are changed alike
pub map_after : (h : FailedRow → FailedRow) (f g : Failure → FailedRow) (fs : List Failure) → ((x : Failure) → h (f x) ≡ g x) → map h (map f fs) ≡ map g fs
map_after h f g [] alike = refl
map_after h f g (x ∷ xs) alike = ap₂ (λ (y : FailedRow) (ys : List FailedRow). y ∷ ys) (alike x) (map_after h f g xs alike)

-- the rows of the other commands
pub rows_without : (P : List Entry) (c : CmdId) (fs : List Failure) → without c (map (row_of P) fs) ≡ map (row_of P) (filter (λ f. not (f.cmd.0 == c.0)) fs)
rows_without P c [] = refl
rows_without P c (f ∷ fs) = elim (cases_Bool (f.cmd.0 == c.0)) as (λ _. without c (map (row_of P) (f ∷ fs)) ≡ map (row_of P) (filter (λ g. not (g.cmd.0 == c.0)) (f ∷ fs))) [
  | inl is ↦ rw is (rows_without P c fs)
  | inr isnt ↦ rw isnt (ap (λ (ys : List FailedRow). row_of P f ∷ ys) (rows_without P c fs))
]

-- an option that is mapped under a choice
sensed_answer : (b x : Bool) (sense : SenseBytes) (a : Option Answer)
    → cond b (option_map (with_sense sense) (cond x None a)) (cond x None a) ≡ cond x None (cond b (option_map (with_sense sense) a) a)
sensed_answer true true sense a = refl
sensed_answer true false sense a = refl
sensed_answer false true sense a = refl
sensed_answer false false sense a = refl

sensed_by : (b : Bool) (sense : SenseBytes) (r : FailedRow)
    → cond b (record r { answer = option_map (with_sense sense) r.answer }) r ≡ record r { answer = cond b (option_map (with_sense sense) r.answer) r.answer }
sensed_by true sense r = refl
sensed_by false sense r = refl

pub sensed_row : (P : List Entry) (c : CmdId) (n : Attempt) (sense : SenseBytes) (f : Failure) → sensed n sense (row_of P f) ≡ row_of (entry.Sensed c n sense ∷ P) f
sensed_row P c n sense f =
    sensed_by (n.0 == f.attempt.0) sense (row_of P f)
    ∙ ap (λ (x : Option Answer). record (row_of P f) { answer = x }) (sensed_answer (n.0 == f.attempt.0) f.cancelled sense (answer f.attempt.0 P))

judged_by : (b : Bool) (d : Disp) (r : FailedRow)
    → cond b (record r { success = not r.cancelled && is_success d }) r ≡ record r { success = cond b (not r.cancelled && is_success d) r.success }
judged_by true d r = refl
judged_by false d r = refl

judged_success : (b x : Bool) (d : Disp) (o : Option Disp)
    → cond b (not x && is_success d) (cond x false (was_success o)) ≡ cond x false (was_success (cond b (Some d) o))
judged_success true true d o = refl
judged_success true false d o = refl
judged_success false true d o = refl
judged_success false false d o = refl

pub judged_row : (P : List Entry) (c : CmdId) (n : Attempt) (d : Disp) (f : Failure) → judged n d (row_of P f) ≡ row_of (entry.Judged c n d ∷ P) f
judged_row P c n d f =
    judged_by (n.0 == f.attempt.0) d (row_of P f)
    ∙ ap (λ (b : Bool). record (row_of P f) { success = b }) (judged_success (n.0 == f.attempt.0) f.cancelled d (judgement f.attempt.0 P))

-- an answer of an attempt that is under way no longer isn't its own
unwanted : (b o a : Bool) (x y : Option Answer) → o ≡ false → cond (b && (o && a)) x y ≡ y
unwanted true true a x y e = absurd (false≢true (sym e))
unwanted true false a x y e = refl
unwanted false o a x y e = refl

pub answered_row : (P : List Entry) (n : Attempt) (a : Answer) (f : Failure) → IsShut P f → row_of P f ≡ row_of (entry.Ready n a ∷ P) f
answered_row P n a f shut =
    ap (λ (x : Option Answer). record (row_of P f) { answer = cond f.cancelled None x })
    (sym (unwanted (n.0 == f.attempt.0) (is_open f.attempt.0 P) (not (is_answered f.attempt.0 P)) (Some a) (answer f.attempt.0 P) shut.1))

-- each row is of a command that has failed
found_here : (b c : Bool) → b ≡ true → b || c ≡ true
found_here true c e = refl
found_here false c e = absurd (false≢true e)

found_later : (b c : Bool) → c ≡ true → b || c ≡ true
found_later true c e = refl
found_later false c e = e

both : (m n : ℕ) → (m == m) && (n == n) ≡ true
both m n = and_from (m == m) (n == n) (eq-eqb m m refl) (eq-eqb n n refl)

abbrev pub IsIn : List Failure → List Entry → FailedRow → Type 0
IsIn fs P r = (has_failed r.command.0 r.attempt.0 fs ≡ true) × (was_sent r.attempt.0 P ≡ true) × (is_open r.attempt.0 P ≡ false)

pub rows_kept : (P : List Entry) (fs : List Failure) → All (IsShut P) fs → All (IsIn fs P) (map (row_of P) fs)
rows_kept P [] shut = All-nil (IsIn [] P)
rows_kept P (f ∷ fs) shut =
    let test : Failure → Bool = λ (g : Failure). (g.cmd.0 == f.cmd.0) && (g.attempt.0 == f.attempt.0) in
    let first = All-head (IsShut P) f fs shut in
    All-cons (IsIn (f ∷ fs) P) (row_of P f) (map (row_of P) fs) (found_here (test f) (list_any test fs) (both f.cmd.0 f.attempt.0), first.0, first.1)
    (All-weaker (IsIn fs P) (IsIn (f ∷ fs) P)
    (λ r h. (found_later ((f.cmd.0 == r.command.0) && (f.attempt.0 == r.attempt.0)) (has_failed r.command.0 r.attempt.0 fs) h.0, h.1, h.2))
    (map (row_of P) fs) (rows_kept P fs (All-tail (IsShut P) f fs shut)))
