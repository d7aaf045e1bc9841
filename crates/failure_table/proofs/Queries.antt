-- What the table's queries come to by the journal, and the room that it has.
use Rattle.std.proofs.Common.{◌≡◌, ◌∙◌, sym, ap, ap₂, subst, refl, ℕ, ◌+◌, ◌<◌, ◌≤◌, ◌==◌, Bool, true, false, not, ◌&&◌, ◌||◌, List, [], ◌∷◌, map, length, Option, arith, inl, inr, slice_get, MatchOption}
use Rattle.std.specs.List.{list_any, list_all}
use Rattle.std.proofs.lemmas.Bool.{cases_Bool, false≢true, and_parts, eqb-true, eqb-false}
use Rattle.std.proofs.lemmas.List.{length-map}
use Rattle.std.proofs.lemmas.List.Sums.{count_by-le-length}
use Rattle.mid_base.specs.declared.names.CmdId.{CmdId}
use Rattle.mid_base.specs.declared.entries.Entry.{Entry}
use Rattle.mid_base.specs.declared.host_spec.HostSpec.{HostSpec}
use Rattle.mid_base.specs.Limits.{differ_in_id}
use Rattle.mid_base.specs.Past.{was_sent, sent_for}
use Rattle.trace_model.specs.Commands.{standing, is_busy, is_failed, aborts}
use Rattle.trace_model.specs.Counts.{busy_count}
use Rattle.trace_model.specs.Devices.{has_begun}
use Rattle.trace_model.specs.Flush.{is_empty}
use Rattle.trace_model.specs.Judging.{is_first}
use Rattle.trace_model.specs.Recovery.{Failure, failed, is_quiet, may_begin}
use Rattle.eh_queue.specs.Failures.{Failure as Queued, is_failed as is_queued}
use Rattle.failure_table.specs.FailuresAgree.{Abort, is_aborting, is_out, out_count, knows, is_for, aborts_of, once_if, failure_of, Says}
use Rattle.failure_table.proofs.Counts.{count_some, count_none, each_passes, none_passes, at_command}
use Rattle.failure_table.proofs.Lists.{same, aborts_cons, queued_is}
use Rattle.failure_table.proofs.Entries.{first_alone, out_from}

-- the empty journal
pub says_nothing : (s : HostSpec) → differ_in_id s.cmds ≡ true → Says s [] [] 0 []
says_nothing s ids = record {
  ids = ids;
  failures = refl;
  listed = λ c. refl;
  scheduled = refl;
  waits = λ c. refl;
  attempts = refl;
  waiting_are = λ c is. absurd (false≢true is);
  busy_are = count_none s.cmds;
  room = omega (arith, count_none s.cmds);
}

first_of : (P : List Entry) (waiting : List Abort) → aborts P ≡ map (λ x. x.1.0) waiting → list_all (is_for P) waiting ≡ true
    → MatchOption (slice_get waiting 0) (aborts P ≡ []) (λ x. (is_first x.1.0 (aborts P) ≡ true) × (sent_for x.1.0 P ≡ x.0.0))
first_of P [] scheduled each = scheduled
first_of P (x ∷ xs) scheduled each =
    let fits = and_parts (is_for P x) (list_all (is_for P) xs) each in
    (ap (is_first x.1.0) scheduled ∙ same x.1.0, eqb-true (sent_for x.1.0 P) x.0.0 (and_parts (was_sent x.1.0 P) (sent_for x.1.0 P == x.0.0) fits.0).1)

quiet_of : (b f a : Bool) → b && not f && not a ≡ false → a ≡ false → not b || f ≡ true
quiet_of true true a h e = refl
quiet_of true false true h e = absurd (false≢true (sym e))
quiet_of true false false h e = absurd (false≢true (sym h))
quiet_of false f a h e = refl

not_out_of : (b f a : Bool) → not b || f ≡ true → b && not f && not a ≡ false
not_out_of true true a h = refl
not_out_of true false a h = absurd (false≢true h)
not_out_of false f a h = refl

not_quiet : (b f : Bool) → b ≡ true → f ≡ false → not b || f ≡ true → ⊥
not_quiet true true e g h = absurd (false≢true (sym g))
not_quiet true false e g h = absurd (false≢true h)
not_quiet false f e g h = absurd (false≢true e)

none_of_none : (d : ℕ) (waiting : List Abort) → length waiting ≡ 0 → aborts_of d waiting ≡ 0
none_of_none d waiting none = omega (arith, count_by-le-length {X = Abort} (λ x. x.0.0 == d) waiting, none)

is_none : (n : ℕ) (b : Bool) → n ≡ 0 → n ≡ once_if b → b ≡ false
is_none n true e h = let one : n ≡ 1 = h in absurd (omega (arith, e, one))
is_none n false e h = refl

nothing_left : (o w l b : ℕ) → l ≡ b → o + w + l ≡ b → (o ≡ 0) × (w ≡ 0)
nothing_left o w l b e h = (omega (arith, e, h), omega (arith, e, h))

all_failed : (o w l b : ℕ) → o ≡ 0 → w ≡ 0 → o + w + l ≡ b → l ≡ b
all_failed o w l b e f h = omega (arith, e, f, h)

fewer : (o w l b : ℕ) → 1 ≤ o → o + w + l ≡ b → (w + l < b)
fewer o w l b e h = omega (arith, e, h)

fewer_waiting : (o w l b : ℕ) → 1 ≤ w → o + w + l ≡ b → l < b
fewer_waiting o w l b e h = omega (arith, e, h)

any_failed : (fs : List Failure) (b : Bool) → is_empty fs ≡ not b → list_any (λ f. true) fs ≡ b
any_failed [] true h = absurd (false≢true (sym h))
any_failed [] false h = refl
any_failed (f ∷ fs) true h = refl
any_failed (f ∷ fs) false h = absurd (false≢true h)

pub may_begin_is : (s : HostSpec) (P : List Entry) (b : Bool) → is_quiet s P ≡ true → has_begun P ≡ false → is_empty (failed P) ≡ not b → may_begin s P ≡ b
may_begin_is s P b quiet begun some =
    ap₂ (λ (q e : Bool). q && not e && list_any (λ (f : Failure). true) (failed P)) quiet begun ∙ any_failed (failed P) b some

module _ (s : HostSpec) (P : List Entry) (queued : List Queued) (busy : ℕ) where
  module _ (waiting : List Abort) (run : Says s P queued busy waiting) where
    pub first_tells : (x : Option Abort) → x ≡ slice_get waiting 0 → MatchOption x (aborts P ≡ []) (λ y. (is_first y.1.0 (aborts P) ≡ true) × (sent_for y.1.0 P ≡ y.0.0))
    first_tells x e =
        subst (λ (o : Option Abort). MatchOption o (aborts P ≡ []) (λ (y : Abort). (is_first y.1.0 (aborts P) ≡ true) × (sent_for y.1.0 P ≡ y.0.0))) (sym e)
        (first_of P waiting run.scheduled run.attempts)

    pub is_on_list : (c : CmdId) → is_failed c.0 P ≡ is_queued c queued
    is_on_list c = sym (queued_is c queued (is_failed c.0 P) (run.listed c.0))

    pub failed_is_calm : (c : ℕ) → is_failed c P ≡ true → is_aborting c P ≡ false
    failed_is_calm c is = elim (cases_Bool (is_aborting c P)) as (λ _. is_aborting c P ≡ false) [
      | inl waits ↦ absurd (false≢true (sym (run.waiting_are c waits).1 ∙ is))
      | inr calm ↦ calm
    ]

    pub counted_once : out_count s P + length (aborts P) + length (failed P) ≡ busy_count s P
    counted_once =
        ap₂ (λ (ms : List ℕ) (fs : List Failure). out_count s P + length ms + length fs) run.scheduled run.failures
        ∙ (ap₂ (λ (m n : ℕ). out_count s P + m + n) (length-map waiting (λ (x : Abort). x.1.0)) (length-map queued failure_of) ∙ (run.room ∙ sym run.busy_are))

    quiet_if : length queued ≡ busy → is_quiet s P ≡ true
    quiet_if all =
        let left = nothing_left (out_count s P) (length waiting) (length queued) busy all run.room in
        each_passes (λ d. is_out d P) (λ d. not (is_busy (standing d P)) || is_failed d P) s.cmds
        (λ d out. quiet_of (is_busy (standing d P)) (is_failed d P) (is_aborting d P) out
        (is_none (aborts_of d waiting) (is_aborting d P) (none_of_none d waiting left.1) (run.waits d))) left.0

    pub out_leaves_room : (c : ℕ) → knows s c ≡ true → is_out c P ≡ true → length waiting + length queued < busy
    out_leaves_room c known out = fewer (out_count s P) (length waiting) (length queued) busy (count_some (λ d. is_out d P) c s.cmds known out) run.room

    pub unfailed_leaves_room : (c : CmdId) → knows s c.0 ≡ true → is_busy (standing c.0 P) ≡ true → is_queued c queued ≡ false → length queued < busy
    unfailed_leaves_room c known now unlisted =
        let unfailed : is_failed c.0 P ≡ false = is_on_list c ∙ unlisted in
        elim (cases_Bool (is_aborting c.0 P)) as (λ _. length queued < busy) [
          | inl is ↦
              let one : aborts_of c.0 waiting ≡ 1 = run.waits c.0 ∙ ap once_if is in
              fewer_waiting (out_count s P) (length waiting) (length queued) busy (omega (arith, count_by-le-length {X = Abort} (λ x. x.0.0 == c.0) waiting, one)) run.room
          | inr calm ↦
              let out = out_from (is_busy (standing c.0 P)) (is_failed c.0 P) (is_aborting c.0 P) now unfailed calm in
              let less = out_leaves_room c.0 known out in
              omega (arith, less)
        ]

  none_waits : (waiting : List Abort) → Says s P queued busy waiting → is_quiet s P ≡ true → length waiting ≡ 0
  none_waits [] run quiet = refl
  none_waits (x ∷ xs) run quiet =
      let first = first_alone (aborts_of x.0.0 (x ∷ xs)) (aborts_of x.0.0 xs) (x.0.0 == x.0.0) (is_aborting x.0.0 P) (aborts_cons x.0.0 x xs) (same x.0.0) (run.waits x.0.0) in
      let was = run.waiting_are x.0.0 first.0 in
      absurd (not_quiet (is_busy (standing x.0.0 P)) (is_failed x.0.0 P) was.0 was.1
      (at_command (λ d. not (is_busy (standing d P)) || is_failed d P) x.0.0 s.cmds was.2 quiet))

  all_if_quiet : (waiting : List Abort) → Says s P queued busy waiting → is_quiet s P ≡ true → length queued ≡ busy
  all_if_quiet waiting run quiet =
      let none : out_count s P ≡ 0 =
      none_passes (λ d. is_out d P) (λ d. not (is_busy (standing d P)) || is_failed d P) s.cmds
      (λ d h. not_out_of (is_busy (standing d P)) (is_failed d P) (is_aborting d P) h) quiet
      in
      all_failed (out_count s P) (length waiting) (length queued) busy none (none_waits waiting run quiet) run.room

  pub quiet_is : (waiting : List Abort) → Says s P queued busy waiting → is_quiet s P ≡ (length queued == busy)
  quiet_is waiting run = elim (cases_Bool (length queued == busy)) as (λ _. is_quiet s P ≡ (length queued == busy)) [
    | inl is ↦ quiet_if waiting run (eqb-true (length queued) busy is) ∙ sym is
    | inr isnt ↦ elim (cases_Bool (is_quiet s P)) as (λ _. is_quiet s P ≡ (length queued == busy)) [
      | inl quiet ↦ absurd (eqb-false (length queued) busy isnt (all_if_quiet waiting run quiet))
      | inr loud ↦ loud ∙ sym isnt
    ]
  ]
