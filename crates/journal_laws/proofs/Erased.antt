-- A legal list without its vain answers is legal.
use Rattle.std.proofs.Common.{eq-eqb, ◌≡◌, ℕ, ◌==◌, Bool, true, false, not, ◌&&◌, ◌||◌, if◌then◌else◌, List, [], ◌∷◌, ◌++◌, reverse, Option, None, Some, refl, sym, ◌∙◌, ap, subst, ⊎_elim, filter}
use Rattle.std.specs.List.{list_any, list_all}
use Rattle.std.proofs.lemmas.Bool.{cases_Bool}
use Rattle.std.proofs.lemmas.List.{reverse-reverse, reverse-append, append-nil}
use Rattle.std.proofs.lemmas.List.Elements.{filter-append}
use Rattle.mid_base.specs.declared.names.CmdId.{CmdId}
use Rattle.mid_base.specs.declared.names.Attempt.{Attempt}
use Rattle.mid_base.specs.declared.answers.Answer.{Answer}
use Rattle.mid_base.specs.declared.answers.By.{By}
use Rattle.mid_base.specs.declared.answers.By.TheVariants.{Answer as ByAnswer, Expiry as ByExpiry}
use Rattle.mid_base.specs.declared.answers.Disp.{Disp}
use Rattle.mid_base.specs.declared.host_spec.HostSpec.{HostSpec}
use Rattle.mid_base.specs.declared.entries.Entry.{Entry}
use Rattle.mid_base.specs.declared.entries.Entry.TheVariants.{Took, Sent, Bounced, Ready, Due, Longer, DoneSaid, Owned, Late, Judged, AbortSet, Aborted, Failed, Again, Told, EhBegin, EhEnd, Act, State, Tick}
use Rattle.mid_base.specs.Address.{has_dev}
use Rattle.mid_base.specs.Answers.{time_out}
use Rattle.device_states.specs.States.{may_become}
use Rattle.disposition.specs.Disp.{disp}
use Rattle.disposition.specs.declared.todo.Todo.{Todo}
use Rattle.mid_base.specs.Levels.{level_of, can_succeed, can_fail}
use Rattle.trace_model.specs.Names.{command, dev_of}
use Rattle.trace_model.specs.Attempts.{attempts, is_open, is_answered, is_due, answer, late, answered, owner, is_by_expiry}
use Rattle.trace_model.specs.Time.{is_claimed, is_expired, may_tick}
use Rattle.trace_model.specs.Sending.{just_sent}
use Rattle.trace_model.specs.Judging.{may_own}
use Rattle.trace_model.specs.Flush.{is_empty}
use Rattle.trace_model.specs.Course.{Course, over, next, ask, fetch, IsOver}
use Rattle.trace_model.specs.Climb.{climb, clear}
use Rattle.trace_model.specs.Rules.{Allowed, MayJudge, course, judged, aborted}
use Rattle.trace_model.specs.Legal.{goes_on, owed, Stands, EachStands, ByPlaces, LegalByPlaces}
use Rattle.trace_model.proofs.Once.{and_left, and_right, or_cases}
use Rattle.journal_laws.specs.Vain.{is_vain, without_vain, without_late, is_reply, without_replies}
use Rattle.journal_laws.proofs.Ways.{way}
use Rattle.journal_laws.proofs.Blind.{attempts_same, is_open_same, is_due_same, retries_same, state_same, has_begun_same, failed_same}
use Rattle.journal_laws.proofs.Wanted.{Safe, Agrees, AgreesOn, answered_same, answer_same, unanswered, none_late}
use Rattle.journal_laws.proofs.Alike.{Alike, online_same, take_same, send_same, expired_same, ask_same, retry_same, judge_same, to_abort_same, left_same, abort_same, todo_same, quiet_same, begin_same, act_next_same, flushed_same, saved_same, telling_same}
use Rattle.journal_laws.proofs.Parts.{alike, agrees, safe, judged_by}

-- Bounced
sent_before : (X P : List Entry) (c n : ℕ) → just_sent c n P ≡ true → just_sent c n (without_vain X P) ≡ true
sent_before X [] c n h = h
sent_before X (Sent d m t ∷ P) c n h = h
sent_before X (e ∷ P) c n h = cc h

-- Owned
own_alike : (X P : List Entry) (n : ℕ) (by : By) → Agrees X (Owned (record { 0 = n }) by ∷ P) → may_own n by P ≡ true → may_own n by (without_vain X P) ≡ true
own_alike X P n ByAnswer agree h =
    let owns : owner n X ≡ Some ByAnswer = agree n (rw (eq-eqb n n refl) refl) ∙ rw (eq-eqb n n refl) refl in
    let untouched : Safe X n = rw owns refl in
    (λ i. is_open_same X n P i && answered_same X n P untouched (and_left (is_open n P) (is_answered n P) h) i) ∙ h
own_alike X P n ByExpiry agree h = (λ i. is_open_same X n P i && is_due_same X n P i) ∙ h

-- Judged
judge_alike : (s : HostSpec) (X P : List Entry) (c n : ℕ) (d : Disp) (a : Option Answer) → MayJudge s P c n d a → MayJudge s (without_vain X P) c n d a
judge_alike s X P c n d None may = absurd may
judge_alike s X P c n d (Some a) may = (
  (λ i. judge_same X c n P i && not (has_begun_same X P i)) ∙ may.0,
  may.1 ∙ (λ i. disp a (sym (retries_same X c P) i) (command s c).allowed (command s c).failfast (sym (online_same s X (dev_of s c) P) i)),
)

-- Tick
claimed_before : (X P : List Entry) (n : ℕ) → is_claimed (without_vain X P) n ≡ true → is_claimed P n ≡ true
claimed_before X P n h =
    let opened : is_open n P ≡ true = sym (is_open_same X n P) ∙ and_left (is_open n (without_vain X P)) _ h in
    ⊎_elim
    (λ a. ⊎_elim
    (λ gone. absurd (cc (sym (unanswered X n P gone) ∙ a)))
    (λ untouched. claimed_answered (is_open n P) (is_answered n P) (is_due n P) opened (sym (answered_same X n P untouched opened) ∙ a))
    (cases_Bool (is_by_expiry (owner n X))))
    (λ d. claimed_due (is_open n P) (is_answered n P) (is_due n P) opened (sym (is_due_same X n P) ∙ d))
    (or_cases (is_answered n (without_vain X P)) (is_due n (without_vain X P)) (and_right (is_open n (without_vain X P)) _ h))
  where
    claimed_answered : (o a d : Bool) → o ≡ true → a ≡ true → o && (a || d) ≡ true
    claimed_answered true true d e f = refl
    claimed_answered true false d e f = cc f
    claimed_answered false a d e f = cc e

    claimed_due : (o a d : Bool) → o ≡ true → d ≡ true → o && (a || d) ≡ true
    claimed_due true true d e f = refl
    claimed_due true false d e f = f
    claimed_due false a d e f = cc e

any_before : (f g : ℕ → Bool) (ns : List ℕ) → ((n : ℕ) → f n ≡ true → g n ≡ true) → not (list_any g ns) ≡ true → not (list_any f ns) ≡ true
any_before f g [] h none = refl
any_before f g (n ∷ ns) h none = ⊎_elim
    (λ yes. absurd (cc (rw (h n yes) at none)))
    (λ no. rw no (any_before f g ns h (neither (g n) (list_any g ns) none)))
    (cases_Bool (f n))
  where
    neither : (a b : Bool) → not (a || b) ≡ true → not b ≡ true
    neither true b q = cc q
    neither false b q = q

all_zero : (X P : List Entry) (ns : List ℕ) → AgreesOn X P → list_all (λ n. late n (without_vain X P) == 0) ns ≡ true
all_zero X P [] agree = refl
all_zero X P (n ∷ ns) agree = rw (eq-eqb (late n (without_vain X P)) 0 (none_late X n P agree)) (all_zero X P ns agree)

three : (a b c : Bool) → a ≡ true → b ≡ true → c ≡ true → a && b && c ≡ true
three true true c e f g = g
three true false c e f g = cc f
three false b c e f g = cc e

tick_alike : (s : HostSpec) (X P : List Entry) → AgreesOn X P → may_tick s P ≡ true → may_tick s (without_vain X P) ≡ true
tick_alike s X P agree may =
    let unclaimed : not (list_any (is_claimed P) (attempts P)) ≡ true = and_left (not (list_any (is_claimed P) (attempts P))) (list_all (λ n. late n P == 0) (answered P)) (and_left (not (list_any (is_claimed P) (attempts P)) && list_all (λ n. late n P == 0) (answered P)) _ may) in
    let unexpired : not (list_any (is_expired s P) (attempts P)) ≡ true = and_right (not (list_any (is_claimed P) (attempts P)) && list_all (λ n. late n P == 0) (answered P)) _ may in
    three (not (list_any (is_claimed (without_vain X P)) (attempts (without_vain X P)))) (list_all (λ n. late n (without_vain X P) == 0) (answered (without_vain X P))) (not (list_any (is_expired s (without_vain X P)) (attempts (without_vain X P))))
    ((λ i. not (list_any (is_claimed (without_vain X P)) (attempts_same X P i))) ∙ any_before (is_claimed (without_vain X P)) (is_claimed P) (attempts P) (claimed_before X P) unclaimed)
    (all_zero X P (answered (without_vain X P)) agree)
    ((λ i. not (list_any (λ n. expired_same s X n P i) (attempts_same X P i))) ∙ unexpired)

-- an entry that may stand may stand without them
allow : (s : HostSpec) (X P : List Entry) (e : Entry) → EachStands s (e ∷ P) → Alike s X P → AgreesOn X (e ∷ P) → is_reply e ≡ false → Allowed s P e → Allowed s (without_vain X P) e
allow s X P (Took c) each h agree keep al = take_same s X c.0 P ∙ al
allow s X P (Sent c n t) each h agree keep al = send_same s X c.0 n.0 t.0 P h ∙ al
allow s X P (Bounced c n why) each h agree keep al = sent_before X P c.0 n.0 al
allow s X P (Ready n a) each h agree keep al = tt
allow s X P (Due n) each h agree keep al = ask_same s X n.0 P ∙ al
allow s X P (Longer n) each h agree keep al = ask_same s X n.0 P ∙ al
allow s X P (DoneSaid n) each h agree keep al = ask_same s X n.0 P ∙ al
allow s X P (Owned n by) each h agree keep al = own_alike X P n.0 by agree.0 al
allow s X P (Late n) each h agree keep al = cc keep
allow s X P (Judged c n d) each h agree keep al =
    let same : answer n.0 (without_vain X P) ≡ answer n.0 P = answer_same X n.0 P (safe X P n.0 agree.1 (judged_by s P c n d each)) in
    subst (λ (a : Option Answer). MayJudge s (without_vain X P) c.0 n.0 d a) (sym same) (judge_alike s X P c.0 n.0 d (answer n.0 P) al)
allow s X P (AbortSet c n) each h agree keep al = (λ i. to_abort_same X c.0 n.0 P i && left_same s X c.0 P i) ∙ al
allow s X P (Aborted c n ok) each h agree keep al = abort_same s X c.0 n.0 ok P ∙ al
allow s X P (Failed c n x) each h agree keep al = (λ i. x && to_abort_same X c.0 n.0 P i && not (left_same s X c.0 P i)) ∙ al
allow s X P (Again c x) each h agree keep al = (λ i. x && flushed_same s X c.0 P h i && saved_same s X c.0 P i) ∙ al
allow s X P (Told c a) each h agree keep al = telling_same s X c.0 P h ∙ al
allow s X P EhBegin each h agree keep al = begin_same s X P ∙ al
allow s X P EhEnd each h agree keep al = (λ i. has_begun_same X P i && is_empty (failed_same X P i)) ∙ al
allow s X P (Act level scope ok) each h agree keep al = (
  (λ i. quiet_same s X P i && has_begun_same X P i && (if ok then can_succeed s.handlers (level_of level) else can_fail (level_of level))) ∙ al.0,
  act_next_same s X P h ∙ al.1,
)
allow s X P (State d x) each h agree keep al = (λ i. not (has_begun_same X P i) && has_dev s.luns d && may_become (state_same X s d P i) x) ∙ al
allow s X P Tick each h agree keep al = tick_alike s X P agree.1 al
allow s X P e each h agree keep al = al

-- and what it makes owed is the same
aborted_alike : (s : HostSpec) (X P : List Entry) (c : CmdId) (n : Attempt) (ok : Bool) → aborted s (without_vain X P) c n ok ≡ aborted s P c n ok
aborted_alike s X P c n true = λ i. next (if retry_same s X c.0 P i then Again c true else Told c time_out) over
aborted_alike s X P c n false = refl

course_alike : (s : HostSpec) (X P : List Entry) (e : Entry) → EachStands s (e ∷ P) → Alike s X P → AgreesOn X P → course s (without_vain X P) e ≡ course s P e
course_alike s X P (Judged c n d) each h agree = λ i. judged c n d (answer_same X n.0 P (safe X P n.0 agree (judged_by s P c n d each)) i)
course_alike s X P (Aborted c n ok) each h agree = aborted_alike s X P c n ok
course_alike s X P EhBegin each h agree = λ i. clear 0 (filter (λ (x : Todo). not (online_same s X x.dev P i)) (h.listed_same i))
course_alike s X P (Act level scope ok) each h agree = λ i. climb (todo_same s X P h i) level scope ok
course_alike s X P e each h agree = refl

-- K is as legal as P, and owes the same
record Carried (s : HostSpec) (K P : List Entry) : Type 0 where
  each : EachStands s K
  owes : owed s K ≡ owed s P

stands_too : (s : HostSpec) (K P : List Entry) (k : Course) (e : Entry) → (Allowed s P e → Allowed s K e) → Stands k s P e → Stands k s K e
stands_too s K P over e f st = f st
stands_too s K P (next x k) e f st = st
stands_too s K P (ask d code want k) e f st = st
stands_too s K P (fetch c n k) e f st = st

goes_too : (s : HostSpec) (K P : List Entry) (k : Course) (e : Entry) → course s K e ≡ course s P e → goes_on k s K e ≡ goes_on k s P e
goes_too s K P over e q = q
goes_too s K P (next x k) e q = refl
goes_too s K P (ask d code want k) e q = refl
goes_too s K P (fetch c n k) e q = refl

carry : (s : HostSpec) (K P : List Entry) (e : Entry) → Stands (owed s P) s P e → (Allowed s P e → Allowed s K e) → course s K e ≡ course s P e → Carried s K P → Carried s (e ∷ K) (e ∷ P)
carry s K P e st f q h = record {
  each = (subst (λ (k : Course). Stands k s K e) (sym h.owes) (stands_too s K P (owed s P) e f st), h.each);
  owes = (λ i. goes_on (h.owes i) s K e) ∙ goes_too s K P (owed s P) e q;
}

-- a reply opens a group of its own
reply_way : (s : HostSpec) (P : List Entry) (e : Entry) → is_reply e ≡ true → EachStands s (e ∷ P) → owed s (e ∷ P) ≡ owed s P
reply_way s P (Ready n a) r each = ⊎_elim
    (λ w. subst (λ (k : Course). goes_on k s P (Ready n a) ≡ k) (sym w.0) refl)
    (λ w. absurd (⊎_elim (λ q. q) (λ q. cc q) w.1))
    (way s P (Ready n a) each)
reply_way s P (Late n) r each = ⊎_elim
    (λ w. subst (λ (k : Course). goes_on k s P (Late n) ≡ k) (sym w.0) refl)
    (λ w. absurd (⊎_elim (λ q. q) (λ q. cc q) w.1))
    (way s P (Late n) each)
reply_way s P e r each = cc r

dropped : (s : HostSpec) (K P : List Entry) (e : Entry) → is_reply e ≡ true → EachStands s (e ∷ P) → Carried s K P → Carried s K (e ∷ P)
dropped s K P e r each h = record { each = h.each; owes = h.owes ∙ sym (reply_way s P e r each) }

carried_on : (s : HostSpec) (X P : List Entry) (e : Entry) → EachStands s (e ∷ P) → AgreesOn X (e ∷ P) → is_reply e ≡ false → Carried s (without_vain X P) P → Carried s (e ∷ without_vain X P) (e ∷ P)
carried_on s X P e each agree keep h =
    let same : Alike s X P = alike s X P each.1 agree.1 in
    carry s (without_vain X P) P e each.0 (allow s X P e each same agree keep) (course_alike s X P e each same agree.1) h

carried : (s : HostSpec) (X P : List Entry) → EachStands s P → AgreesOn X P → Carried s (without_vain X P) P
carried s X [] each agree = record { each = tt; owes = refl }
carried s X (Ready m a ∷ P) each agree =
    let rest : Carried s (without_vain X P) P = carried s X P each.1 agree.1 in
    ⊎_elim
    (λ vain. subst (λ (b : Bool). Carried s (if b then without_vain X P else Ready m a ∷ without_vain X P) (Ready m a ∷ P)) (sym vain) (dropped s (without_vain X P) P (Ready m a) refl each rest))
    (λ stays. subst (λ (b : Bool). Carried s (if b then without_vain X P else Ready m a ∷ without_vain X P) (Ready m a ∷ P)) (sym stays)
    (carry s (without_vain X P) P (Ready m a) each.0 (λ al. tt) refl rest))
    (cases_Bool (is_vain X (Ready m a) P))
carried s X (Late m ∷ P) each agree = dropped s (without_vain X P) P (Late m) refl each (carried s X P each.1 agree.1)
carried s X (e ∷ P) each agree = carried_on s X P e each agree refl (carried s X P each.1 agree.1)

pub still_legal : (s : HostSpec) (X : List Entry) → ByPlaces s X → ByPlaces s (without_vain X X)
still_legal s X legal =
    let h : Carried s (without_vain X X) X = carried s X X legal.each (agrees s X legal.each) in
    record { each = h.each; ended = subst IsOver (sym h.owes) legal.ended }

pub journal_still_legal : (s : HostSpec) (journal : List Entry) → LegalByPlaces s journal → LegalByPlaces s (without_late journal)
journal_still_legal s journal legal =
    subst (ByPlaces s) (sym (reverse-reverse (without_vain (reverse journal) (reverse journal)))) (still_legal s (reverse journal) legal)

-- nothing else is taken out
reply_or : (b : Bool) (e : Entry) (K : List Entry) → is_reply e ≡ true → without_replies (if b then K else e ∷ K) ≡ without_replies K
reply_or true e K r = refl
reply_or false (Ready n a) K r = refl
reply_or false (Late n) K r = refl
reply_or false e K r = cc r

others_stay : (X P : List Entry) → without_replies (without_vain X P) ≡ without_replies P
others_stay X [] = refl
others_stay X (Ready m a ∷ P) = reply_or (is_vain X (Ready m a) P) (Ready m a) (without_vain X P) refl ∙ others_stay X P
others_stay X (Late m ∷ P) = others_stay X P
others_stay X (e ∷ P) = λ i. e ∷ others_stay X P i

back_to_front : (f : Entry → Bool) (P : List Entry) → filter f (reverse P) ≡ reverse (filter f P)
back_to_front f [] = refl
back_to_front f (e ∷ P) =
    ap (filter f) (reverse-append (e ∷ []) P)
    ∙ (filter-append f (reverse P) (e ∷ []) ∙ (ap (λ Q. Q ++ filter f (e ∷ [])) (back_to_front f P) ∙ last (f e) (filter f P)))
  where
    last : (b : Bool) (Q : List Entry) → reverse Q ++ (if b then e ∷ [] else []) ≡ reverse (if b then e ∷ Q else Q)
    last true Q = sym (reverse-append (e ∷ []) Q)
    last false Q = append-nil (reverse Q)

pub journal_others_stay : (journal : List Entry) → without_replies (without_late journal) ≡ without_replies journal
journal_others_stay journal =
    let X : List Entry = reverse journal in
    back_to_front (λ e. not (is_reply e)) (without_vain X X)
    ∙ (ap reverse (others_stay X X) ∙ (sym (back_to_front (λ e. not (is_reply e)) X) ∙ ap without_replies (reverse-reverse journal)))

-- no answer is late any more, and the answers of all attempts that no expiry owns are there
pub left_late : (s : HostSpec) (X : List Entry) (n : ℕ) → EachStands s X → late n (without_vain X X) ≡ 0
left_late s X n each = none_late X n X (agrees s X each)

pub journal_left_late : (s : HostSpec) (journal : List Entry) (n : ℕ) → LegalByPlaces s journal → late n (reverse (without_late journal)) ≡ 0
journal_left_late s journal n legal =
    let X : List Entry = reverse journal in
    subst (λ (P : List Entry). late n P ≡ 0) (sym (reverse-reverse (without_vain X X))) (left_late s X n legal.each)

pub journal_left_good : (journal : List Entry) (n : ℕ) → is_by_expiry (owner n (reverse journal)) ≡ false → answer n (reverse (without_late journal)) ≡ answer n (reverse journal)
journal_left_good journal n untouched =
    let X : List Entry = reverse journal in
    subst (λ (P : List Entry). answer n P ≡ answer n X) (sym (reverse-reverse (without_vain X X))) (answer_same X n X untouched)
