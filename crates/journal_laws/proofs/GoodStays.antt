-- A command whose attempt was answered GOOD is told that answer.
use Rattle.std.proofs.Common.{eq-eqb, ◌≡◌, ◌⊎◌, ℕ, ◌==◌, Bool, true, false, not, ◌&&◌, List, [], ◌∷◌, Option, None, Some, is_some, option_map, refl, sym, ◌∙◌, ap, subst, arith, inl, inr, ⊎_elim}
use Rattle.std.proofs.lemmas.Bool.{eqb-true, cases_Bool}
use Rattle.std.proofs.lemmas.Bool.Decides.{eqb_tells}
use Rattle.std.proofs.lemmas.Option.{none-some, same_Some}
use Rattle.mid_base.specs.declared.bytes.SenseBytes.{SenseBytes}
use Rattle.mid_base.specs.declared.names.CmdId.{CmdId}
use Rattle.mid_base.specs.declared.names.Attempt.{Attempt}
use Rattle.mid_base.specs.declared.answers.Answer.{Answer}
use Rattle.mid_base.specs.declared.answers.By.{By}
use Rattle.mid_base.specs.declared.answers.By.TheVariants.{Answer as ByAnswer, Expiry as ByExpiry}
use Rattle.mid_base.specs.declared.answers.Disp.{Disp}
use Rattle.mid_base.specs.declared.answers.Disp.TheVariants.{Success}
use Rattle.mid_base.specs.declared.entries.Entry.{Entry}
use Rattle.mid_base.specs.declared.entries.Entry.TheVariants.{Sent, Ready, Owned, Judged, AbortSet, Failed, Sensed, Told}
use Rattle.mid_base.specs.declared.host_spec.HostSpec.{HostSpec}
use Rattle.mid_base.specs.Answers.{is_good, with_sense}
use Rattle.mid_base.specs.Codes.{did_ok, good}
use Rattle.mid_base.specs.Past.{sent_for}
use Rattle.disposition.specs.Disp.{disp}
use Rattle.trace_model.specs.Attempts.{is_open, is_answered, is_wanted, answer, owner, is_by_answer, is_by_expiry, is_settled}
use Rattle.trace_model.specs.Devices.{has_begun}
use Rattle.trace_model.specs.Judging.{to_judge, to_abort, has_abort_left}
use Rattle.trace_model.specs.Recovery.{failed}
use Rattle.trace_model.specs.Course.{Course, over, next, ask, fetch, IsOver, Meets}
use Rattle.trace_model.specs.Rules.{MayJudge, judged}
use Rattle.trace_model.specs.Legal.{goes_on, owed, Stands, EachStands, ByPlaces}
use Rattle.trace_model.specs.Drained.{tellings}
use Rattle.trace_model.proofs.Owes.{Calm, is_calm, meets_owes, stands}
use Rattle.trace_model.proofs.Owners.{open_unowned}
use Rattle.trace_model.proofs.Stage.{settled, stage, has_failure}
use Rattle.trace_model.proofs.Once.{EndsAt, OwedOf, owed_of, and_left, and_right}
use Rattle.trace_model.proofs.OnceMore.{held_all}
use Rattle.trace_model.proofs.After.{none_after}
use Rattle.journal_laws.specs.Goods.{told}
use Rattle.journal_laws.proofs.Ways.{Way, way}
use Rattle.journal_laws.proofs.Numbered.{fits_all}
use Rattle.journal_laws.proofs.Known.{Knows, IsDone, known, owner_old}

-- c is told a next
abbrev Next : Course → ℕ → Answer → Type 0
Next (next (Told d b) k) c a = (d.0 ≡ c) × (b ≡ a)
Next k c a = ⊥

abbrev IsTold : ℕ → Answer → Entry → Type 0
IsTold c a (Told d b) = (d.0 ≡ c) × (b ≡ a)
IsTold c a e = ⊥

next_told : (s : HostSpec) (P : List Entry) (c : ℕ) (a : Answer) (k : Course) (e : Entry) → Next k c a → Stands k s P e → IsTold c a e
next_told s P c a (next (Told d b) k) e h st = subst (IsTold c a) (sym st) h
next_told s P c a k e h st = absurd h

abbrev Kept : ℕ → List Entry → Course → Type 0
Kept n P k = is_by_answer (owner n P) ≡ true → is_settled n P ≡ true → (a : Answer) → answer n P ≡ Some a → is_good a ≡ true → (told (sent_for n P) P ≡ Some a) ⊎ Next k (sent_for n P) a

-- an entry that is no report, after which a told command is still told
still : (s : HostSpec) (P : List Entry) (k l : Course) (c : ℕ) (a : Answer) (e : Entry) → (IsTold c a e → ⊥) → Stands k s P e → (told c P ≡ Some a) ⊎ Next k c a → (told c P ≡ Some a) ⊎ Next l c a
still s P k l c a e isnt st (inl h) = inl h
still s P k l c a e isnt st (inr h) = absurd (isnt (next_told s P c a k e h st))

-- a GOOD answer is a success
good_succeeds : (a : Answer) (retries allowed : ℕ) (failfast online : Bool) → is_good a ≡ true → disp a retries allowed failfast online ≡ Success
good_succeeds a r w f false h = refl
good_succeeds a r w f true h =
    let host : (a.host.0 == did_ok) ≡ true = and_left (a.host.0 == did_ok) (a.status == good) h in
    let status : a.status ≡ good = eqb-true a.status good (and_right (a.host.0 == did_ok) (a.status == good) h) in
    rw (host, status) refl

good_judged : (s : HostSpec) (P : List Entry) (c : CmdId) (n : Attempt) (d : Disp) (m : Option Answer) (a : Answer) → MayJudge s P c.0 n.0 d m → m ≡ Some a → is_good a ≡ true → (sent_for n.0 P ≡ c.0) × Next (judged c n d m) c.0 a
good_judged s P c n d None a may e g = absurd may
good_judged s P c n d (Some b) a may e g =
    let same : b ≡ a = same_Some b a e in
    let success : d ≡ Success = may.1 ∙ good_succeeds b _ _ _ _ (subst (λ x. is_good x ≡ true) (sym same) g) in
    let was : to_judge P c.0 n.0 ≡ true = and_left (to_judge P c.0 n.0) (not (has_begun P)) may.0 in
    (eqb-true (sent_for n.0 P) c.0 (and_right (is_by_answer (owner n.0 P) && not (is_settled n.0 P)) _ was), subst (λ (x : Disp). Next (judged c n x (Some b)) c.0 a) (sym success) (refl, same))

-- of an attempt on the failed list
listed_done : (s : HostSpec) (P : List Entry) (c n : ℕ) → EachStands s P → has_failure c n (failed P) ≡ true → IsDone c n P
listed_done s P c n each h = subst (Knows c P) ((held_all s c P each).1 n h) (known s c P each)

by_one : (o : Option By) → is_by_answer o ≡ true → is_by_expiry o ≡ true → ⊥
by_one None a b = cc a
by_one (Some ByAnswer) a b = cc b
by_one (Some ByExpiry) a b = cc a

owned_some : (o : Option By) → is_by_answer o ≡ true → is_some o ≡ true
owned_some None h = cc h
owned_some (Some by) h = refl

not_open : (s : HostSpec) (n : ℕ) (P : List Entry) → EachStands s P → is_by_answer (owner n P) ≡ true → is_open n P ≡ true → ⊥
not_open s n P each by o = cc (subst (λ w. is_by_answer w ≡ true) (open_unowned s P n each o) by)

expired : (P : List Entry) (c n : ℕ) → to_abort P c n ≡ true → is_by_answer (owner n P) ≡ true → ⊥
expired P c n h by = by_one (owner n P) by (and_left (is_by_expiry (owner n P)) _ (and_left (is_by_expiry (owner n P) && not (is_settled n P)) _ h))

failed_by : (c : ℕ) (P : List Entry) (k : Course) (d : CmdId) (m : Attempt) (x : Bool) → OwedOf c P k → Meets k (Failed d m x) → d.0 ≡ c → stage c P ≡ settled m.0
failed_by c P over d m x o st q = absurd st
failed_by c P (next y over) d m x (inl o) st q = cc (subst (λ z. is_calm z ≡ true) (sym st) o.1)
failed_by c P (next y over) d m x (inr o) st q = subst (EndsAt c P) (sym st) o q
failed_by c P (next y (next z k)) d m x o st q = cc (meets_owes Calm (next y (next z k)) (Failed d m x) o.1 st)
failed_by c P (next y (ask e code want k)) d m x o st q = cc (meets_owes Calm (next y (ask e code want k)) (Failed d m x) o.1 st)
failed_by c P (next y (fetch e n k)) d m x o st q = cc (meets_owes Calm (next y (fetch e n k)) (Failed d m x) o.1 st)
failed_by c P (ask e code want k) d m x o st q = cc (meets_owes Calm (ask e code want k) (Failed d m x) o.1 st)
failed_by c P (fetch e n k) d m x o st q = cc (meets_owes Calm (fetch e n k) (Failed d m x) o.1 st)

told_counts : (c : ℕ) (P : List Entry) (a : Answer) → told c P ≡ Some a → tellings c P ≡ 0 → ⊥
told_counts c [] a h z = none-some a h
told_counts c (Told d b ∷ P) a h z = ⊎_elim (λ yes. omega (arith, rw yes at z)) (λ no. told_counts c P a (rw no at h) (rw no at z)) (cases_Bool (d.0 == c))
told_counts c (e ∷ P) a h z = told_counts c P a h z

from_sense : (sense : SenseBytes) (o : Option Answer) (a : Answer) → option_map (with_sense sense) o ≡ Some a → is_good a ≡ true → (b : Answer) × (o ≡ Some b) × (is_good b ≡ true)
from_sense sense None a e g = absurd (none-some a e)
from_sense sense (Some b) a e g = (b, refl, subst (λ x. is_good x ≡ true) (sym (same_Some (with_sense sense b) a e)) g)

-- how each kind of entry keeps it
judged_kept : (s : HostSpec) (P : List Entry) (c : CmdId) (m : Attempt) (d : Disp) (a : Answer) → EachStands s (Judged c m d ∷ P) → is_by_answer (owner m.0 P) ≡ true → answer m.0 P ≡ Some a → is_good a ≡ true → Kept m.0 P (owed s P)
    → Way s P (owed s P) (Judged c m d) → (told (sent_for m.0 P) P ≡ Some a) ⊎ Next (goes_on (owed s P) s P (Judged c m d)) (sent_for m.0 P) a
judged_kept s P c m d a each by e g h (inl w) =
    let x = good_judged s P c m d (answer m.0 P) a w.1 e g in
    inr (subst (λ (k : Course). Next (goes_on k s P (Judged c m d)) (sent_for m.0 P) a) (sym w.0) (subst (λ (i : ℕ). Next (judged c m d (answer m.0 P)) i a) (sym x.0) x.1))
judged_kept s P c m d a each by e g h (inr w) = ⊎_elim
    (λ named. still s P (owed s P) (goes_on (owed s P) s P (Judged c m d)) (sent_for m.0 P) a (Judged c m d) (λ f. f) each.0 (h by (listed_done s P c.0 m.0 each.1 named).settled a e g))
    (λ ends. absurd (cc ends))
    w.1

failed_kept : (s : HostSpec) (P : List Entry) (c : CmdId) (m : Attempt) (x : Bool) (a : Answer) → EachStands s (Failed c m x ∷ P) → is_by_answer (owner m.0 P) ≡ true → answer m.0 P ≡ Some a → is_good a ≡ true → Kept m.0 P (owed s P)
    → Way s P (owed s P) (Failed c m x) → (told (sent_for m.0 P) P ≡ Some a) ⊎ Next (goes_on (owed s P) s P (Failed c m x)) (sent_for m.0 P) a
failed_kept s P c m x a each by e g h (inl w) =
    absurd (expired P c.0 m.0 (and_right x (to_abort P c.0 m.0) (and_left (x && to_abort P c.0 m.0) (not (has_abort_left s P c.0)) w.1)) by)
failed_kept s P c m x a each by e g h (inr w) =
    let done : IsDone c.0 m.0 P = subst (Knows c.0 P) (failed_by c.0 P (owed s P) c m x (owed_of s c.0 P each.1) w.0 refl) (known s c.0 P each.1) in
    still s P (owed s P) (goes_on (owed s P) s P (Failed c m x)) (sent_for m.0 P) a (Failed c m x) (λ f. f) each.0 (h by done.settled a e g)

sensed_kept : (s : HostSpec) (P : List Entry) (c : CmdId) (m : Attempt) (sense : SenseBytes) (a : Answer) → EachStands s (Sensed c m sense ∷ P) → is_by_answer (owner m.0 P) ≡ true → is_settled m.0 P ≡ true
    → option_map (with_sense sense) (answer m.0 P) ≡ Some a → is_good a ≡ true → Kept m.0 P (owed s P) → Way s P (owed s P) (Sensed c m sense) → ⊥
sensed_kept s P c m sense a each by done e g h (inl w) = w.1
sensed_kept s P c m sense a each by done e g h (inr w) = ⊎_elim
    (λ named.
    let b = from_sense sense (answer m.0 P) a e g in
    let sent : sent_for m.0 P ≡ c.0 = (listed_done s P c.0 m.0 each.1 named).out.sent in
    ⊎_elim
    (λ was. told_counts c.0 P b.0 (subst (λ (i : ℕ). told i P ≡ Some b.0) sent was) ((none_after s c.0 (Sensed c m sense ∷ P) each).0 (eq-eqb c.0 c.0 refl)))
    (λ owing. next_told s P (sent_for m.0 P) b.0 (owed s P) (Sensed c m sense) owing each.0)
    (h by done b.0 b.1 b.2))
    (λ ends. cc ends)
    w.1

told_kept : (s : HostSpec) (P : List Entry) (c : ℕ) (d : CmdId) (b a : Answer) → EachStands s (Told d b ∷ P) → (told c P ≡ Some a) ⊎ Next (owed s P) c a → told c (Told d b ∷ P) ≡ Some a
told_kept s P c d b a each (inl was) = ⊎_elim
    (λ yes. absurd (told_counts c P a was ((none_after s c (Told d b ∷ P) each).0 yes)))
    (λ no. rw no was)
    (cases_Bool (d.0 == c))
told_kept s P c d b a each (inr owing) =
    let x = next_told s P c a (owed s P) (Told d b) owing each.0 in
    rw (eq-eqb d.0 c x.0) (ap Some x.1)

kept_step : (s : HostSpec) (P : List Entry) (n : ℕ) (e : Entry) → EachStands s (e ∷ P) → Kept n P (owed s P) → Kept n (e ∷ P) (owed s (e ∷ P))
kept_step s P n (Sent c m t) each h = λ by done a e g. ⊎_elim
    (λ yes. absurd (omega (arith, owner_old s n P each.1 (owned_some (owner n P) by), yes.1, (fits_all s 0 P (Sent c m t) each).1)))
    (λ no.
    let sent : sent_for n (Sent c m t ∷ P) ≡ sent_for n P = rw no.0 refl in
    subst (λ (i : ℕ). (told i P ≡ Some a) ⊎ Next (owed s (Sent c m t ∷ P)) i a) (sym sent)
    (still s P (owed s P) (owed s (Sent c m t ∷ P)) (sent_for n P) a (Sent c m t) (λ f. f) each.0 (h by done a e g)))
    (eqb_tells m.0 n)
kept_step s P n (Owned m who) each h = λ by done a e g. ⊎_elim
    (λ yes. absurd (cc (rw yes.0 at done)))
    (λ no. still s P (owed s P) (owed s (Owned m who ∷ P)) (sent_for n P) a (Owned m who) (λ f. f) each.0 (h (rw no.0 at by) (rw no.0 at done) a e g))
    (eqb_tells m.0 n)
kept_step s P n (Ready m b) each h = λ by done a e g. ⊎_elim
    (λ yes. absurd (not_open s n P each.1 by (and_left (is_open n P) (not (is_answered n P)) (and_right (m.0 == n) (is_wanted n P) yes))))
    (λ no. still s P (owed s P) (owed s (Ready m b ∷ P)) (sent_for n P) a (Ready m b) (λ f. f) each.0 (h by done a (rw no at e) g))
    (cases_Bool ((m.0 == n) && is_wanted n P))
kept_step s P n (Judged c m d) each h = λ by done a e g. ⊎_elim
    (λ yes. subst (λ (i : ℕ). (told (sent_for i P) P ≡ Some a) ⊎ Next (owed s (Judged c m d ∷ P)) (sent_for i P) a) yes.1
    (judged_kept s P c m d a each (subst (λ (i : ℕ). is_by_answer (owner i P) ≡ true) (sym yes.1) by) (subst (λ (i : ℕ). answer i P ≡ Some a) (sym yes.1) e) g
    (subst (λ (i : ℕ). Kept i P (owed s P)) (sym yes.1) h) (way s P (Judged c m d) each)))
    (λ no. still s P (owed s P) (owed s (Judged c m d ∷ P)) (sent_for n P) a (Judged c m d) (λ f. f) each.0 (h by (rw no.0 at done) a e g))
    (eqb_tells m.0 n)
kept_step s P n (AbortSet c m) each h = λ by done a e g. ⊎_elim
    (λ yes. absurd (⊎_elim
    (λ al. expired P c.0 m.0 (and_left (to_abort P c.0 m.0) (has_abort_left s P c.0) al) (subst (λ (i : ℕ). is_by_answer (owner i P) ≡ true) (sym yes.1) by))
    (λ f. ⊎_elim (λ q. cc q) (λ q. cc q) f)
    (stands s P (AbortSet c m) each.0)))
    (λ no. still s P (owed s P) (owed s (AbortSet c m ∷ P)) (sent_for n P) a (AbortSet c m) (λ f. f) each.0 (h by (rw no.0 at done) a e g))
    (eqb_tells m.0 n)
kept_step s P n (Failed c m x) each h = λ by done a e g. ⊎_elim
    (λ yes. subst (λ (i : ℕ). (told (sent_for i P) P ≡ Some a) ⊎ Next (owed s (Failed c m x ∷ P)) (sent_for i P) a) yes.1
    (failed_kept s P c m x a each (subst (λ (i : ℕ). is_by_answer (owner i P) ≡ true) (sym yes.1) by) (subst (λ (i : ℕ). answer i P ≡ Some a) (sym yes.1) e) g
    (subst (λ (i : ℕ). Kept i P (owed s P)) (sym yes.1) h) (way s P (Failed c m x) each)))
    (λ no. still s P (owed s P) (owed s (Failed c m x ∷ P)) (sent_for n P) a (Failed c m x) (λ f. f) each.0 (h by (rw no.0 at done) a e g))
    (eqb_tells m.0 n)
kept_step s P n (Sensed c m sense) each h = λ by done a e g. ⊎_elim
    (λ yes. absurd (sensed_kept s P c m sense a each (subst (λ (i : ℕ). is_by_answer (owner i P) ≡ true) (sym yes.1) by) (subst (λ (i : ℕ). is_settled i P ≡ true) (sym yes.1) done)
    (subst (λ (i : ℕ). option_map (with_sense sense) (answer i P) ≡ Some a) (sym yes.1) (rw yes.0 at e)) g (subst (λ (i : ℕ). Kept i P (owed s P)) (sym yes.1) h) (way s P (Sensed c m sense) each)))
    (λ no. still s P (owed s P) (owed s (Sensed c m sense ∷ P)) (sent_for n P) a (Sensed c m sense) (λ f. f) each.0 (h by done a (rw no.0 at e) g))
    (eqb_tells m.0 n)
kept_step s P n (Told d b) each h = λ by done a e g. inl (told_kept s P (sent_for n P) d b a each (h by done a e g))
kept_step s P n e each h = λ by done a q g. still s P (owed s P) (owed s (e ∷ P)) (sent_for n P) a e (λ f. f) each.0 (h by done a q g)

kept : (s : HostSpec) (n : ℕ) (P : List Entry) → EachStands s P → Kept n P (owed s P)
kept s n [] each = λ by done a e g. absurd (cc by)
kept s n (e ∷ P) each = kept_step s P n e each (kept s n P each.1)

over_next : (k : Course) (c : ℕ) (a : Answer) → IsOver k → Next k c a → ⊥
over_next over c a o h = h
over_next (next x k) c a o h = o
over_next (ask d code want k) c a o h = o
over_next (fetch d n k) c a o h = o

pub good_told : (s : HostSpec) (P : List Entry) (n : ℕ) (a : Answer) → ByPlaces s P → is_by_answer (owner n P) ≡ true → is_settled n P ≡ true → answer n P ≡ Some a → is_good a ≡ true → told (sent_for n P) P ≡ Some a
good_told s P n a legal by done e g = ⊎_elim
    (λ was. was)
    (λ owing. absurd (over_next (owed s P) (sent_for n P) a legal.ended owing))
    (kept s n P legal.each by done a e g)
