-- What each entry does to what the table has.
use Rattle.std.proofs.Common.{◌≡◌, ◌≢◌, ◌∙◌, sym, ap, ap₂, subst, refl, ℕ, suc, ◌+◌, ◌==◌, Bool, true, false, not, ◌&&◌, List, [], ◌∷◌, ◌++◌, map, length, arith, inl, inr}
use Rattle.std.specs.Prelude.{cond, filter, slice_get, Option, None, Some, MatchOption}
use Rattle.std.proofs.lemmas.Option.{same_Some, none-some}
use Rattle.std.specs.List.{list_all}
use Rattle.std.proofs.lemmas.Bool.{cases_Bool, cases_eq, false≢true, and_parts, and_left, and_right, and_from, not-true, not_from_false, not_from_true, cond-true, cond-false, eqb-true}
use Rattle.std.proofs.lemmas.List.{map_push, length_push}
use Rattle.mid_base.specs.declared.answers.Answer.{Answer}
use Rattle.mid_base.specs.declared.answers.BusyOf.{BusyOf}
use Rattle.mid_base.specs.declared.names.Attempt.{Attempt}
use Rattle.mid_base.specs.declared.names.CmdId.{CmdId}
use Rattle.mid_base.specs.declared.names.Tag.{Tag}
use Rattle.mid_base.specs.declared.entries.Entry.{Entry}
use Rattle.mid_base.specs.declared.entries.Entry.TheVariants as entry
use Rattle.mid_base.specs.declared.host_spec.HostSpec.{HostSpec}
use Rattle.mid_base.specs.Past.{was_sent, sent_for}
use Rattle.trace_model.specs.declared.standing.Standing.{Standing}
use Rattle.trace_model.specs.declared.standing.Standing.TheVariants as stands
use Rattle.trace_model.specs.Commands.{standing, is_busy, failed_since_sent, is_failed, aborts}
use Rattle.trace_model.specs.Counts.{busy_count}
use Rattle.trace_model.specs.Recovery.{Failure, failed}
use Rattle.eh_queue.specs.Failures.{Failure as Queued, without}
use Rattle.failure_table.specs.FailuresAgree.{Abort, is_aborting, is_out, out_count, knows, is_for, failures_of, aborts_of, once_if, failure_of, IsWaiting, Says, IsApart}
use Rattle.failure_table.proofs.Counts.{count_moves, count_more, count_less, count_alike}
use Rattle.failure_table.proofs.Lists.{same, differ, failures_push, aborts_cons, aborts_push, without_it, without_others, without_none, without_length, filter_without, other_aborts_stay, sent_later, all_push}

-- what is said where a test of the number is met, and where it isn't
at_same : {A : Type 0} (c : ℕ) (x y : A) → cond (c == c) x y ≡ x
at_same c x y = cond-true (c == c) x y (same c)

at_other : {A : Type 0} (c d : ℕ) (x y : A) → d ≢ c → cond (c == d) x y ≡ y
at_other c d x y ne = cond-false (c == d) x y (differ (λ (e : c ≡ d). ne (sym e)))

-- small sums
room_up : (o o' w q b : ℕ) → o' ≡ o + 1 → o + w + q ≡ b → o' + w + q ≡ b + 1
room_up o o' w q b e h = omega (arith, e, h)

cancel_one : (n m b b' : ℕ) → n + 1 ≡ m → m ≡ b → b' + 1 ≡ b → n ≡ b'
cancel_one n m b b' e f g = omega (arith, e, f, g)

room_left : (o o' w l l' b b' : ℕ) (f a a' : Bool) → o' + once_if a ≡ o + once_if a' → a ≡ not f → a' ≡ false → l' + once_if f ≡ l → o + w + l ≡ b → b' + 1 ≡ b → o' + w + l' ≡ b'
room_left o o' w l l' b b' true a a' moved e e' len room less =
    let before : once_if a ≡ 0 = ap once_if e in
    let after : once_if a' ≡ 0 = ap once_if e' in
    omega (arith, moved, before, after, len, room, less)
room_left o o' w l l' b b' false a a' moved e e' len room less =
    let before : once_if a ≡ 1 = ap once_if e in
    let after : once_if a' ≡ 0 = ap once_if e' in
    omega (arith, moved, before, after, len, room, less)

room_scheduled : (o o' w w' q b : ℕ) → o' + 1 ≡ o → w' ≡ w + 1 → o + w + q ≡ b → o' + w' + q ≡ b
room_scheduled o o' w w' q b e f h = omega (arith, e, f, h)

room_tried : (o o' w v q b : ℕ) → o' ≡ o + 1 → v ≡ suc w → o + v + q ≡ b → o' + w + q ≡ b
room_tried o o' w v q b e f h = omega (arith, e, f, h)

room_failed : (o o' w q q' b : ℕ) → o' + 1 ≡ o → q' ≡ q + 1 → o + w + q ≡ b → o' + w + q' ≡ b
room_failed o o' w q q' b e f h = omega (arith, e, f, h)

one_more : (n k : ℕ) (a b : Bool) → n ≡ k + once_if a → k ≡ 0 → a ≡ true → b ≡ true → n ≡ once_if b
one_more n k a b h e f g =
    let one : once_if a ≡ 1 = ap once_if f in
    let its : once_if b ≡ 1 = ap once_if g in
    omega (arith, h, e, one, its)

no_more : (n k : ℕ) (a b b' : Bool) → n ≡ k + once_if a → a ≡ false → k ≡ once_if b → b' ≡ b → n ≡ once_if b'
no_more n k a b b' h e f g =
    let none : once_if a ≡ 0 = ap once_if e in
    let its : once_if b' ≡ once_if b = ap once_if g in
    omega (arith, h, none, f, its)

pub first_alone : (n m : ℕ) (a b : Bool) → n ≡ once_if a + m → a ≡ true → n ≡ once_if b → (b ≡ true) × (m ≡ 0)
first_alone n m a true h e f = let one : once_if a ≡ 1 = ap once_if e in (refl, omega (arith, h, one, f))
first_alone n m a false h e f = let one : once_if a ≡ 1 = ap once_if e in absurd (omega (arith, h, one, f))

not_first : (n m : ℕ) (a b b' : Bool) → n ≡ once_if a + m → a ≡ false → n ≡ once_if b → b' ≡ b → m ≡ once_if b'
not_first n m a b b' h e f g =
    let none : once_if a ≡ 0 = ap once_if e in
    let its : once_if b' ≡ once_if b = ap once_if g in
    omega (arith, h, none, f, its)

-- a command that is out
pub out_parts : (c : ℕ) (P : List Entry) → is_out c P ≡ true → (is_busy (standing c P) ≡ true) × (is_failed c P ≡ false) × (is_aborting c P ≡ false)
out_parts c P out =
    let outer = and_parts (is_busy (standing c P) && not (is_failed c P)) (not (is_aborting c P)) out in
    let inner = and_parts (is_busy (standing c P)) (not (is_failed c P)) outer.0 in
    (inner.0, not-true (is_failed c P) inner.1, not-true (is_aborting c P) outer.1)

pub out_from : (b f a : Bool) → b ≡ true → f ≡ false → a ≡ false → b && not f && not a ≡ true
out_from b f a e g h = and_from (b && not f) (not a) (and_from b (not f) e (not_from_false f g)) (not_from_false a h)

not_out_idle : (b f a : Bool) → b ≡ false → b && not f && not a ≡ false
not_out_idle b f a e = and_left (b && not f) (not a) (and_left b (not f) e)

not_out_failed : (b f a : Bool) → f ≡ true → b && not f && not a ≡ false
not_out_failed b f a e = and_left (b && not f) (not a) (and_right b (not f) (not_from_true f e))

not_out_aborting : (b f a : Bool) → a ≡ true → b && not f && not a ≡ false
not_out_aborting b f a e = and_right (b && not f) (not a) (not_from_true a e)

unless_failed : (b f a : Bool) → b ≡ true → a ≡ false → b && not f && not a ≡ not f
unless_failed true true false e h = refl
unless_failed true false false e h = refl
unless_failed true f true e h = absurd (false≢true (sym h))
unless_failed false f a e h = absurd (false≢true e)

-- the first of a list
pub first_and_rest : (xs : List Abort) (y : Abort) → slice_get xs 0 ≡ Some y → (rest : List Abort) × (xs ≡ y ∷ rest)
first_and_rest [] y at = absurd (none-some y at)
first_and_rest (x ∷ xs) y at = (xs, ap (λ (z : Abort). z ∷ xs) (same_Some x y at))

-- what is taken out is the first
pub taken_first : (old new : List Abort) (x : Option Abort) (y : Abort) → MatchOption x ((old ≡ []) × (new ≡ [])) (λ first. old ≡ first ∷ new) → slice_get old 0 ≡ Some y → old ≡ y ∷ new
taken_first old new None y is at = absurd (none-some y (sym (ap (λ (xs : List Abort). slice_get xs 0) is.0) ∙ at))
taken_first old new (Some x) y is at =
    let e : x ≡ y = same_Some x y (sym (ap (λ (xs : List Abort). slice_get xs 0) is) ∙ at) in
    is ∙ ap (λ (z : Abort). z ∷ new) e

-- the same said of lists that are equal
pub moved : (s : HostSpec) (P : List Entry) (q q' : List Queued) (b b' : ℕ) (w w' : List Abort) → Says s P q b w → q' ≡ q → b' ≡ b → w' ≡ w → Says s P q' b' w'
moved s P q q' b b' w w' run e f g =
    subst (λ (x : List Queued). Says s P x b' w') (sym e) (subst (λ (x : ℕ). Says s P q x w') (sym f) (subst (λ (x : List Abort). Says s P q b x) (sym g) run))

module _ (s : HostSpec) (P : List Entry) (queued : List Queued) (busy : ℕ) (waiting : List Abort) (run : Says s P queued busy waiting) where
  -- entries that say nothing of failures
  pub says_apart : (e : Entry) → IsApart e → Says s (e ∷ P) queued busy waiting
  says_apart (entry.Ready n a) apart = record { ids = run.ids; failures = run.failures; listed = run.listed; scheduled = run.scheduled; waits = run.waits; attempts = run.attempts; waiting_are = run.waiting_are; busy_are = run.busy_are; room = run.room }
  says_apart (entry.Due n) apart = record { ids = run.ids; failures = run.failures; listed = run.listed; scheduled = run.scheduled; waits = run.waits; attempts = run.attempts; waiting_are = run.waiting_are; busy_are = run.busy_are; room = run.room }
  says_apart (entry.Longer n) apart = record { ids = run.ids; failures = run.failures; listed = run.listed; scheduled = run.scheduled; waits = run.waits; attempts = run.attempts; waiting_are = run.waiting_are; busy_are = run.busy_are; room = run.room }
  says_apart (entry.DoneSaid n) apart = record { ids = run.ids; failures = run.failures; listed = run.listed; scheduled = run.scheduled; waits = run.waits; attempts = run.attempts; waiting_are = run.waiting_are; busy_are = run.busy_are; room = run.room }
  says_apart (entry.Owned n by) apart = record { ids = run.ids; failures = run.failures; listed = run.listed; scheduled = run.scheduled; waits = run.waits; attempts = run.attempts; waiting_are = run.waiting_are; busy_are = run.busy_are; room = run.room }
  says_apart (entry.Late n) apart = record { ids = run.ids; failures = run.failures; listed = run.listed; scheduled = run.scheduled; waits = run.waits; attempts = run.attempts; waiting_are = run.waiting_are; busy_are = run.busy_are; room = run.room }
  says_apart (entry.Judged c n d) apart = record { ids = run.ids; failures = run.failures; listed = run.listed; scheduled = run.scheduled; waits = run.waits; attempts = run.attempts; waiting_are = run.waiting_are; busy_are = run.busy_are; room = run.room }
  says_apart (entry.Cleared c level) apart = record { ids = run.ids; failures = run.failures; listed = run.listed; scheduled = run.scheduled; waits = run.waits; attempts = run.attempts; waiting_are = run.waiting_are; busy_are = run.busy_are; room = run.room }
  says_apart (entry.Sensed c n sense) apart = record { ids = run.ids; failures = run.failures; listed = run.listed; scheduled = run.scheduled; waits = run.waits; attempts = run.attempts; waiting_are = run.waiting_are; busy_are = run.busy_are; room = run.room }
  says_apart (entry.Act level scope ok) apart = record { ids = run.ids; failures = run.failures; listed = run.listed; scheduled = run.scheduled; waits = run.waits; attempts = run.attempts; waiting_are = run.waiting_are; busy_are = run.busy_are; room = run.room }
  says_apart (entry.Probe d op say) apart = record { ids = run.ids; failures = run.failures; listed = run.listed; scheduled = run.scheduled; waits = run.waits; attempts = run.attempts; waiting_are = run.waiting_are; busy_are = run.busy_are; room = run.room }
  says_apart (entry.Offline d) apart = record { ids = run.ids; failures = run.failures; listed = run.listed; scheduled = run.scheduled; waits = run.waits; attempts = run.attempts; waiting_are = run.waiting_are; busy_are = run.busy_are; room = run.room }
  says_apart (entry.State d x) apart = record { ids = run.ids; failures = run.failures; listed = run.listed; scheduled = run.scheduled; waits = run.waits; attempts = run.attempts; waiting_are = run.waiting_are; busy_are = run.busy_are; room = run.room }
  says_apart entry.Tick apart = record { ids = run.ids; failures = run.failures; listed = run.listed; scheduled = run.scheduled; waits = run.waits; attempts = run.attempts; waiting_are = run.waiting_are; busy_are = run.busy_are; room = run.room }
  says_apart e apart = absurd apart

  pub says_begin : Says s (entry.EhBegin ∷ P) queued busy waiting
  says_begin = record { ids = run.ids; failures = run.failures; listed = run.listed; scheduled = run.scheduled; waits = run.waits; attempts = run.attempts; waiting_are = run.waiting_are; busy_are = run.busy_are; room = run.room }

  pub says_end : Says s (entry.EhEnd ∷ P) queued busy waiting
  says_end = record { ids = run.ids; failures = run.failures; listed = run.listed; scheduled = run.scheduled; waits = run.waits; attempts = run.attempts; waiting_are = run.waiting_are; busy_are = run.busy_are; room = run.room }

  -- a command that isn't busy neither has failed nor is to be aborted
  module _ (c : CmdId) (idle : is_busy (standing c.0 P) ≡ false) where
    pub idle_unfailed : is_failed c.0 P ≡ false
    idle_unfailed = and_left (is_busy (standing c.0 P)) (failed_since_sent c.0 P) idle

    idle_calm : is_aborting c.0 P ≡ false
    idle_calm = elim (cases_Bool (is_aborting c.0 P)) as (λ _. is_aborting c.0 P ≡ false) [
      | inl is ↦ absurd (false≢true (sym idle ∙ (run.waiting_are c.0 is).0))
      | inr isnt ↦ isnt
    ]

    pub sent_is_out : (n : Attempt) (t : Tag) → is_out c.0 (entry.Sent c n t ∷ P) ≡ true
    sent_is_out n t =
        let S = entry.Sent c n t ∷ P in
        out_from (is_busy (standing c.0 S)) (is_failed c.0 S) (is_aborting c.0 P) (ap is_busy (at_same c.0 (stands.Busy n t) (standing c.0 P)))
        (and_right (is_busy (standing c.0 S)) (failed_since_sent c.0 S) (at_same c.0 false (failed_since_sent c.0 P))) idle_calm

    pub idle_unlisted : failures_of c.0 queued ≡ 0
    idle_unlisted = run.listed c.0 ∙ ap once_if idle_unfailed

  module _ (c : CmdId) (n : Attempt) (t : Tag) (idle : is_busy (standing c.0 P) ≡ false) (known : knows s c.0 ≡ true) (fresh : was_sent n.0 P ≡ false) where
    abbrev S : List Entry
    S = entry.Sent c n t ∷ P

    sent_failed : (d : ℕ) → is_failed d S ≡ is_failed d P
    sent_failed d = elim (cases_eq d c.0) as (λ _. is_failed d S ≡ is_failed d P) [
      | inl e ↦ subst (λ (m : ℕ). is_failed m S ≡ is_failed m P) (sym e)
          (and_right (is_busy (standing c.0 S)) (failed_since_sent c.0 S) (at_same c.0 false (failed_since_sent c.0 P)) ∙ sym (idle_unfailed c idle))
      | inr ne ↦ ap₂ (λ (x : Standing) (b : Bool). is_busy x && b) (at_other c.0 d (stands.Busy n t) (standing d P) ne) (at_other c.0 d false (failed_since_sent d P) ne)
    ]

    sent_waiting : (d : ℕ) → is_aborting d P ≡ true → IsWaiting s S d
    sent_waiting d is =
        let was = run.waiting_are d is in
        let ne : d ≢ c.0 = λ e. false≢true (sym idle ∙ (ap (λ (m : ℕ). is_busy (standing m P)) (sym e) ∙ was.0)) in
        (ap is_busy (at_other c.0 d (stands.Busy n t) (standing d P) ne) ∙ was.0, sent_failed d ∙ was.1, was.2)

    sent_busy : busy_count s S ≡ busy_count s P + 1
    sent_busy =
        count_more (λ d. is_busy (standing d P)) (λ d. is_busy (standing d S)) c.0 s.cmds run.ids known
        (λ d ne. ap is_busy (at_other c.0 d (stands.Busy n t) (standing d P) ne)) idle (ap is_busy (at_same c.0 (stands.Busy n t) (standing c.0 P)))

    sent_out : out_count s S ≡ out_count s P + 1
    sent_out =
        count_more (λ d. is_out d P) (λ d. is_out d S) c.0 s.cmds run.ids known
        (λ d ne. ap₂ (λ (x : Standing) (f : Bool). is_busy x && not f && not (is_aborting d P)) (at_other c.0 d (stands.Busy n t) (standing d P) ne) (sent_failed d))
        (not_out_idle (is_busy (standing c.0 P)) (is_failed c.0 P) (is_aborting c.0 P) idle)
        (sent_is_out c idle n t)

    pub says_sent : Says s S queued (busy + 1) waiting
    says_sent = record {
      ids = run.ids;
      failures = run.failures;
      listed = λ d. run.listed d ∙ ap once_if (sym (sent_failed d));
      scheduled = run.scheduled;
      waits = run.waits;
      attempts = sent_later P c n t waiting fresh run.attempts;
      waiting_are = sent_waiting;
      busy_are = sent_busy ∙ ap (λ (k : ℕ). k + 1) run.busy_are;
      room = room_up (out_count s P) (out_count s S) (length waiting) (length queued) busy sent_out run.room;
    }

  -- what changes where the standing of one command does
  module _ (c : CmdId) (Q : List Entry) (scheduled : aborts Q ≡ map (λ x. x.1.0) waiting) (attempts : list_all (is_for Q) waiting ≡ true)
      (aborting : (d : ℕ) → is_aborting d Q ≡ is_aborting d P) (since : (d : ℕ) → failed_since_sent d Q ≡ failed_since_sent d P)
      (idle : is_busy (standing c.0 Q) ≡ false) (others : (d : ℕ) → d ≢ c.0 → standing d Q ≡ standing d P) where
    left_unfailed : is_failed c.0 Q ≡ false
    left_unfailed = and_left (is_busy (standing c.0 Q)) (failed_since_sent c.0 Q) idle

    other_failed : (d : ℕ) → d ≢ c.0 → is_failed d Q ≡ is_failed d P
    other_failed d ne = ap₂ (λ (x : Standing) (b : Bool). is_busy x && b) (others d ne) (since d)

    other_out : (d : ℕ) → d ≢ c.0 → is_out d Q ≡ is_out d P
    other_out d ne =
        ap₂ (λ (x : Standing) (f : Bool). is_busy x && not f && not (is_aborting d Q)) (others d ne) (other_failed d ne)
        ∙ ap (λ (a : Bool). is_busy (standing d P) && not (is_failed d P) && not a) (aborting d)

    still_waits : (d : ℕ) → aborts_of d waiting ≡ once_if (is_aborting d Q)
    still_waits d = run.waits d ∙ ap once_if (sym (aborting d))

    still_waiting : is_aborting c.0 P ≡ false → (d : ℕ) → is_aborting d Q ≡ true → IsWaiting s Q d
    still_waiting calm d is =
        let before : is_aborting d P ≡ true = sym (aborting d) ∙ is in
        let ne : d ≢ c.0 = λ e. false≢true (sym calm ∙ (ap (λ (m : ℕ). is_aborting m P) (sym e) ∙ before)) in
        let was = run.waiting_are d before in
        (ap is_busy (others d ne) ∙ was.0, other_failed d ne ∙ was.1, was.2)

    -- a busy command is busy no longer
    module _ (busy' : ℕ) (less : busy' + 1 ≡ busy) (known : knows s c.0 ≡ true) (now : is_busy (standing c.0 P) ≡ true) (calm : is_aborting c.0 P ≡ false)
        (failures : failed Q ≡ map failure_of (without c queued)) where
      left_listed : (d : ℕ) → failures_of d (without c queued) ≡ once_if (is_failed d Q)
      left_listed d = elim (cases_eq d c.0) as (λ _. failures_of d (without c queued) ≡ once_if (is_failed d Q)) [
        | inl e ↦ subst (λ (m : ℕ). failures_of m (without c queued) ≡ once_if (is_failed m Q)) (sym e) (without_it c queued ∙ sym (ap once_if left_unfailed))
        | inr ne ↦ without_others c d queued ne ∙ (run.listed d ∙ ap once_if (sym (other_failed d ne)))
      ]

      left_busy : busy_count s Q + 1 ≡ busy_count s P
      left_busy = count_less (λ d. is_busy (standing d P)) (λ d. is_busy (standing d Q)) c.0 s.cmds run.ids known (λ d ne. ap is_busy (others d ne)) now idle

      left_out : out_count s Q + once_if (is_out c.0 P) ≡ out_count s P + once_if (is_out c.0 Q)
      left_out = count_moves (λ d. is_out d P) (λ d. is_out d Q) c.0 s.cmds run.ids known other_out

      left_length : length (without c queued) + once_if (is_failed c.0 P) ≡ length queued
      left_length = ap (λ (k : ℕ). length (without c queued) + k) (sym (run.listed c.0)) ∙ without_length c queued

      pub says_left : Says s Q (without c queued) busy' waiting
      says_left = record {
        ids = run.ids;
        failures = failures;
        listed = left_listed;
        scheduled = scheduled;
        waits = still_waits;
        attempts = attempts;
        waiting_are = still_waiting calm;
        busy_are = cancel_one (busy_count s Q) (busy_count s P) busy busy' left_busy run.busy_are less;
        room = room_left (out_count s P) (out_count s Q) (length waiting) (length queued) (length (without c queued)) busy busy'
            (is_failed c.0 P) (is_out c.0 P) (is_out c.0 Q) left_out
            (unless_failed (is_busy (standing c.0 P)) (is_failed c.0 P) (is_aborting c.0 P) now calm)
            (not_out_idle (is_busy (standing c.0 Q)) (is_failed c.0 Q) (is_aborting c.0 Q) idle) left_length run.room less;
      }

    -- a command that wasn't busy still isn't
    module _ (was : is_busy (standing c.0 P) ≡ false) (failures : failed Q ≡ map failure_of queued) where
      idle_busy : (d : ℕ) → is_busy (standing d Q) ≡ is_busy (standing d P)
      idle_busy d = elim (cases_eq d c.0) as (λ _. is_busy (standing d Q) ≡ is_busy (standing d P)) [
        | inl e ↦ subst (λ (m : ℕ). is_busy (standing m Q) ≡ is_busy (standing m P)) (sym e) (idle ∙ sym was)
        | inr ne ↦ ap is_busy (others d ne)
      ]

      idle_failed : (d : ℕ) → is_failed d Q ≡ is_failed d P
      idle_failed d = ap₂ (λ (a b : Bool). a && b) (idle_busy d) (since d)

      idle_out : (d : ℕ) → is_out d Q ≡ is_out d P
      idle_out d =
          ap₂ (λ (b f : Bool). b && not f && not (is_aborting d Q)) (idle_busy d) (idle_failed d)
          ∙ ap (λ (a : Bool). is_busy (standing d P) && not (is_failed d P) && not a) (aborting d)

      pub says_idle : Says s Q queued busy waiting
      says_idle = record {
        ids = run.ids;
        failures = failures;
        listed = λ d. run.listed d ∙ ap once_if (sym (idle_failed d));
        scheduled = scheduled;
        waits = still_waits;
        attempts = attempts;
        waiting_are = still_waiting (idle_calm c was);
        busy_are = count_alike (λ d. is_busy (standing d P)) (λ d. is_busy (standing d Q)) s.cmds idle_busy ∙ run.busy_are;
        room = ap (λ (o : ℕ). o + length waiting + length queued) (count_alike (λ d. is_out d P) (λ d. is_out d Q) s.cmds idle_out) ∙ run.room;
      }

  -- the entries of commands that are busy no longer
  module _ (c : CmdId) (busy' : ℕ) (less : busy' + 1 ≡ busy) (known : knows s c.0 ≡ true) where
    pub says_bounced : (n : Attempt) (why : BusyOf) → is_out c.0 P ≡ true → Says s (entry.Bounced c n why ∷ P) (without c queued) busy' waiting
    says_bounced n why out =
        let parts = out_parts c.0 P out in
        let unlisted : failures_of c.0 queued ≡ 0 = run.listed c.0 ∙ ap once_if parts.1 in
        says_left c (entry.Bounced c n why ∷ P) run.scheduled run.attempts (λ d. refl) (λ d. refl) (ap is_busy (at_same c.0 stands.Waits (standing c.0 P)))
        (λ d ne. at_other c.0 d stands.Waits (standing d P) ne) busy' less known parts.0 parts.2
        (run.failures ∙ ap (λ (fs : List Queued). map failure_of fs) (sym (without_none c queued unlisted)))

    pub says_again : (counted : Bool) → is_busy (standing c.0 P) ≡ true → is_aborting c.0 P ≡ false → Says s (entry.Again c counted ∷ P) (without c queued) busy' waiting
    says_again counted now calm =
        says_left c (entry.Again c counted ∷ P) run.scheduled run.attempts (λ d. refl) (λ d. refl) (ap is_busy (at_same c.0 stands.Waits (standing c.0 P)))
        (λ d ne. at_other c.0 d stands.Waits (standing d P) ne) busy' less known now calm
        (ap (λ (fs : List Failure). filter (λ f. not (f.cmd.0 == c.0)) fs) run.failures ∙ filter_without c queued)

    pub says_told : (a : Answer) → is_busy (standing c.0 P) ≡ true → is_aborting c.0 P ≡ false → Says s (entry.Told c a ∷ P) (without c queued) busy' waiting
    says_told a now calm =
        says_left c (entry.Told c a ∷ P) run.scheduled run.attempts (λ d. refl) (λ d. refl) (ap is_busy (at_same c.0 stands.Ended (standing c.0 P)))
        (λ d ne. at_other c.0 d stands.Ended (standing d P) ne) busy' less known now calm
        (ap (λ (fs : List Failure). filter (λ f. not (f.cmd.0 == c.0)) fs) run.failures ∙ filter_without c queued)

  pub says_took : (c : CmdId) → is_busy (standing c.0 P) ≡ false → Says s (entry.Took c ∷ P) queued busy waiting
  says_took c was =
      says_idle c (entry.Took c ∷ P) run.scheduled run.attempts (λ d. refl) (λ d. refl) (ap is_busy (at_same c.0 stands.Waits (standing c.0 P)))
      (λ d ne. at_other c.0 d stands.Waits (standing d P) ne) was run.failures

  pub says_told_idle : (c : CmdId) (a : Answer) → is_busy (standing c.0 P) ≡ false → Says s (entry.Told c a ∷ P) queued busy waiting
  says_told_idle c a was =
      says_idle c (entry.Told c a ∷ P) run.scheduled run.attempts (λ d. refl) (λ d. refl) (ap is_busy (at_same c.0 stands.Ended (standing c.0 P)))
      (λ d ne. at_other c.0 d stands.Ended (standing d P) ne) was
      (ap (λ (fs : List Failure). filter (λ f. not (f.cmd.0 == c.0)) fs) run.failures
      ∙ (filter_without c queued ∙ ap (λ (fs : List Queued). map failure_of fs) (without_none c queued (idle_unlisted c was))))

  -- the entries of a command that is out
  module _ (c : CmdId) (n : Attempt) (known : knows s c.0 ≡ true) (out : is_out c.0 P ≡ true) where
    parts : (is_busy (standing c.0 P) ≡ true) × (is_failed c.0 P ≡ false) × (is_aborting c.0 P ≡ false)
    parts = out_parts c.0 P out

    abbrev A : List Entry
    A = entry.AbortSet c n ∷ P

    set_waits : (d : ℕ) → aborts_of d (waiting ++ (c, n) ∷ []) ≡ once_if (is_aborting d A)
    set_waits d = elim (cases_eq d c.0) as (λ _. aborts_of d (waiting ++ (c, n) ∷ []) ≡ once_if (is_aborting d A)) [
      | inl e ↦ subst (λ (m : ℕ). aborts_of m (waiting ++ (c, n) ∷ []) ≡ once_if (is_aborting m A)) (sym e)
          (one_more (aborts_of c.0 (waiting ++ (c, n) ∷ [])) (aborts_of c.0 waiting) (c.0 == c.0) (is_aborting c.0 A) (aborts_push c.0 waiting (c, n))
          (run.waits c.0 ∙ ap once_if parts.2) (same c.0) (at_same c.0 true (is_aborting c.0 P)))
      | inr ne ↦
          no_more (aborts_of d (waiting ++ (c, n) ∷ [])) (aborts_of d waiting) (c.0 == d) (is_aborting d P) (is_aborting d A) (aborts_push d waiting (c, n))
          (differ (λ (e : c.0 ≡ d). ne (sym e))) (run.waits d) (at_other c.0 d true (is_aborting d P) ne)
    ]

    set_waiting : (d : ℕ) → is_aborting d A ≡ true → IsWaiting s A d
    set_waiting d is = elim (cases_eq d c.0) as (λ _. IsWaiting s A d) [
      | inl e ↦ subst (λ (m : ℕ). IsWaiting s A m) (sym e) (parts.0, parts.1, known)
      | inr ne ↦ run.waiting_are d (sym (at_other c.0 d true (is_aborting d P) ne) ∙ is)
    ]

    set_out : out_count s A + 1 ≡ out_count s P
    set_out =
        count_less (λ d. is_out d P) (λ d. is_out d A) c.0 s.cmds run.ids known
        (λ d ne. ap (λ (a : Bool). is_busy (standing d P) && not (is_failed d P) && not a) (at_other c.0 d true (is_aborting d P) ne)) out
        (not_out_aborting (is_busy (standing c.0 P)) (is_failed c.0 P) (is_aborting c.0 A) (at_same c.0 true (is_aborting c.0 P)))

    pub says_scheduled : is_for P (c, n) ≡ true → Says s A queued busy (waiting ++ (c, n) ∷ [])
    says_scheduled its = record {
      ids = run.ids;
      failures = run.failures;
      listed = run.listed;
      scheduled = ap (λ (ns : List ℕ). ns ++ n.0 ∷ []) run.scheduled ∙ sym (map_push (λ (x : Abort). x.1.0) waiting (c, n));
      waits = set_waits;
      attempts = all_push (is_for P) waiting (c, n) run.attempts its;
      waiting_are = set_waiting;
      busy_are = run.busy_are;
      room = room_scheduled (out_count s P) (out_count s A) (length waiting) (length (waiting ++ (c, n) ∷ [])) (length queued) busy set_out (length_push waiting (c, n)) run.room;
    }

    module _ (x : Bool) where
      abbrev F : List Entry
      F = entry.Failed c n x ∷ P

      fail_same : is_failed c.0 F ≡ true
      fail_same = and_from (is_busy (standing c.0 P)) (failed_since_sent c.0 F) parts.0 (at_same c.0 true (failed_since_sent c.0 P))

      fail_other : (d : ℕ) → d ≢ c.0 → is_failed d F ≡ is_failed d P
      fail_other d ne = ap (λ (b : Bool). is_busy (standing d P) && b) (at_other c.0 d true (failed_since_sent d P) ne)

      fail_listed : (d : ℕ) → failures_of d (queued ++ (c, n, x) ∷ []) ≡ once_if (is_failed d F)
      fail_listed d = elim (cases_eq d c.0) as (λ _. failures_of d (queued ++ (c, n, x) ∷ []) ≡ once_if (is_failed d F)) [
        | inl e ↦ subst (λ (m : ℕ). failures_of m (queued ++ (c, n, x) ∷ []) ≡ once_if (is_failed m F)) (sym e)
            (one_more (failures_of c.0 (queued ++ (c, n, x) ∷ [])) (failures_of c.0 queued) (c.0 == c.0) (is_failed c.0 F) (failures_push c.0 queued (c, n, x))
            (run.listed c.0 ∙ ap once_if parts.1) (same c.0) fail_same)
        | inr ne ↦
            no_more (failures_of d (queued ++ (c, n, x) ∷ [])) (failures_of d queued) (c.0 == d) (is_failed d P) (is_failed d F) (failures_push d queued (c, n, x))
            (differ (λ (e : c.0 ≡ d). ne (sym e))) (run.listed d) (fail_other d ne)
      ]

      fail_waiting : (d : ℕ) → is_aborting d P ≡ true → IsWaiting s F d
      fail_waiting d is =
          let ne : d ≢ c.0 = λ e. false≢true (sym parts.2 ∙ (ap (λ (m : ℕ). is_aborting m P) (sym e) ∙ is)) in
          let was = run.waiting_are d is in
          (was.0, fail_other d ne ∙ was.1, was.2)

      fail_out : out_count s F + 1 ≡ out_count s P
      fail_out =
          count_less (λ d. is_out d P) (λ d. is_out d F) c.0 s.cmds run.ids known
          (λ d ne. ap (λ (f : Bool). is_busy (standing d P) && not f && not (is_aborting d P)) (fail_other d ne)) out
          (not_out_failed (is_busy (standing c.0 P)) (is_failed c.0 F) (is_aborting c.0 P) fail_same)

      pub says_failed : Says s F (queued ++ (c, n, x) ∷ []) busy waiting
      says_failed = record {
        ids = run.ids;
        failures = ap (λ (fs : List Failure). fs ++ failure_of (c, n, x) ∷ []) run.failures ∙ sym (map_push failure_of queued (c, n, x));
        listed = fail_listed;
        scheduled = run.scheduled;
        waits = run.waits;
        attempts = run.attempts;
        waiting_are = fail_waiting;
        busy_are = run.busy_are;
        room = room_failed (out_count s P) (out_count s F) (length waiting) (length queued) (length (queued ++ (c, n, x) ∷ [])) busy fail_out (length_push queued (c, n, x)) run.room;
      }

-- the abort that was scheduled first was tried
module _ (s : HostSpec) (P : List Entry) (queued : List Queued) (busy : ℕ) (c : CmdId) (n : Attempt) (rest : List Abort) (run : Says s P queued busy ((c, n) ∷ rest)) (ok : Bool) where
  abbrev T : List Entry
  T = entry.Aborted c n ok ∷ P

  first_is : (is_aborting c.0 P ≡ true) × (aborts_of c.0 rest ≡ 0)
  first_is = first_alone (aborts_of c.0 ((c, n) ∷ rest)) (aborts_of c.0 rest) (c.0 == c.0) (is_aborting c.0 P) (aborts_cons c.0 (c, n) rest) (same c.0) (run.waits c.0)

  fits : (is_for P (c, n) ≡ true) × (list_all (is_for P) rest ≡ true)
  fits = and_parts (is_for P (c, n)) (list_all (is_for P) rest) run.attempts

  its : sent_for n.0 P ≡ c.0
  its = eqb-true (sent_for n.0 P) c.0 (and_parts (was_sent n.0 P) (sent_for n.0 P == c.0) fits.0).1

  tried_scheduled : aborts T ≡ map (λ x. x.1.0) rest
  tried_scheduled =
      ap (λ (ms : List ℕ). filter (λ m. not (m == n.0)) ms) run.scheduled
      ∙ (ap (λ (b : Bool). cond (not b) (n.0 ∷ filter (λ m. not (m == n.0)) (map (λ (x : Abort). x.1.0) rest)) (filter (λ m. not (m == n.0)) (map (λ (x : Abort). x.1.0) rest))) (same n.0)
      ∙ other_aborts_stay P c n rest its fits.1 first_is.1)

  tried_waits : (d : ℕ) → aborts_of d rest ≡ once_if (is_aborting d T)
  tried_waits d = elim (cases_eq d c.0) as (λ _. aborts_of d rest ≡ once_if (is_aborting d T)) [
    | inl e ↦ subst (λ (m : ℕ). aborts_of m rest ≡ once_if (is_aborting m T)) (sym e) (first_is.1 ∙ sym (ap once_if (at_same c.0 false (is_aborting c.0 P))))
    | inr ne ↦
        not_first (aborts_of d ((c, n) ∷ rest)) (aborts_of d rest) (c.0 == d) (is_aborting d P) (is_aborting d T) (aborts_cons d (c, n) rest)
        (differ (λ (e : c.0 ≡ d). ne (sym e))) (run.waits d) (at_other c.0 d false (is_aborting d P) ne)
  ]

  tried_waiting : (d : ℕ) → is_aborting d T ≡ true → IsWaiting s T d
  tried_waiting d is = elim (cases_eq d c.0) as (λ _. IsWaiting s T d) [
    | inl e ↦ absurd (false≢true (sym (at_same c.0 false (is_aborting c.0 P)) ∙ (ap (λ (m : ℕ). is_aborting m T) (sym e) ∙ is)))
    | inr ne ↦ run.waiting_are d (sym (at_other c.0 d false (is_aborting d P) ne) ∙ is)
  ]

  tried_out : out_count s T ≡ out_count s P + 1
  tried_out =
      let was = run.waiting_are c.0 first_is.0 in
      count_more (λ d. is_out d P) (λ d. is_out d T) c.0 s.cmds run.ids was.2
      (λ d ne. ap (λ (a : Bool). is_busy (standing d P) && not (is_failed d P) && not a) (at_other c.0 d false (is_aborting d P) ne))
      (not_out_aborting (is_busy (standing c.0 P)) (is_failed c.0 P) (is_aborting c.0 P) first_is.0)
      (out_from (is_busy (standing c.0 P)) (is_failed c.0 P) (is_aborting c.0 T) was.0 was.1 (at_same c.0 false (is_aborting c.0 P)))

  pub says_tried : Says s T queued busy rest
  says_tried = record {
    ids = run.ids;
    failures = run.failures;
    listed = run.listed;
    scheduled = tried_scheduled;
    waits = tried_waits;
    attempts = fits.1;
    waiting_are = tried_waiting;
    busy_are = run.busy_are;
    room = room_tried (out_count s P) (out_count s T) (length rest) (length ((c, n) ∷ rest)) (length queued) busy tried_out refl run.room;
  }

  pub tried_is_out : (knows s c.0 ≡ true) × (is_out c.0 T ≡ true)
  tried_is_out =
      let was = run.waiting_are c.0 first_is.0 in
      (was.2, out_from (is_busy (standing c.0 P)) (is_failed c.0 P) (is_aborting c.0 T) was.0 was.1 (at_same c.0 false (is_aborting c.0 P)))
