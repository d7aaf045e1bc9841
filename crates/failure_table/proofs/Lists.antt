-- The failed list and the scheduled aborts: how often a command stands on them.
use Rattle.std.proofs.Common.{◌≡◌, ◌≢◌, ◌∙◌, sym, ap, refl, ℕ, ◌+◌, ◌==◌, Bool, true, false, not, ◌&&◌, List, [], ◌∷◌, ◌++◌, map, length, arith, inl, inr}
use Rattle.std.specs.Prelude.{cond, filter}
use Rattle.std.specs.List.{list_all}
use Rattle.std.proofs.lemmas.Bool.{cases_Bool, false≢true, eqb-true, eqb-false, eq-eqb, ne_eqb, and_parts, and_from, or_parts, or_from}
use Rattle.std.proofs.lemmas.List.Sums.{sum_by-cons, sum_by_push}
use Rattle.mid_base.specs.declared.names.CmdId.{CmdId}
use Rattle.mid_base.specs.declared.names.Attempt.{Attempt}
use Rattle.mid_base.specs.declared.names.Tag.{Tag}
use Rattle.mid_base.specs.declared.entries.Entry.{Entry}
use Rattle.mid_base.specs.declared.entries.Entry.TheVariants as entry
use Rattle.mid_base.specs.Past.{was_sent, sent_for}
use Rattle.trace_model.specs.Recovery.{Failure}
use Rattle.eh_queue.specs.Failures.{Failure as Queued, is_failed as is_queued, without}
use Rattle.failure_table.specs.FailuresAgree.{Abort, is_for, failures_of, aborts_of, once_if, failure_of}

pub same : (n : ℕ) → (n == n) ≡ true
same n = eq-eqb n n refl

pub differ : {m n : ℕ} → m ≢ n → (m == n) ≡ false
differ {m} {n} ne = ne_eqb m n ne

pub failures_cons : (c : ℕ) (f : Queued) (fs : List Queued) → failures_of c (f ∷ fs) ≡ once_if (f.0.0 == c) + failures_of c fs
failures_cons c f fs = sum_by-cons {X = Queued} (λ g. cond (g.0.0 == c) 1 0) f fs

pub failures_push : (c : ℕ) (fs : List Queued) (f : Queued) → failures_of c (fs ++ f ∷ []) ≡ failures_of c fs + once_if (f.0.0 == c)
failures_push c fs f = sum_by_push {X = Queued} (λ g. cond (g.0.0 == c) 1 0) fs f

pub aborts_cons : (c : ℕ) (x : Abort) (xs : List Abort) → aborts_of c (x ∷ xs) ≡ once_if (x.0.0 == c) + aborts_of c xs
aborts_cons c x xs = sum_by-cons {X = Abort} (λ y. cond (y.0.0 == c) 1 0) x xs

pub aborts_push : (c : ℕ) (xs : List Abort) (x : Abort) → aborts_of c (xs ++ x ∷ []) ≡ aborts_of c xs + once_if (x.0.0 == c)
aborts_push c xs x = sum_by_push {X = Abort} (λ y. cond (y.0.0 == c) 1 0) xs x

-- of a cons: it counts, or it doesn't
counts : (n m : ℕ) (b : Bool) → n ≡ once_if b + m → b ≡ true → n ≡ m + 1
counts n m true h e = omega (arith, h)
counts n m false h e = absurd (false≢true e)

counts_not : (n m : ℕ) (b : Bool) → n ≡ once_if b + m → b ≡ false → n ≡ m
counts_not n m true h e = absurd (false≢true (sym e))
counts_not n m false h e = omega (arith, h)

zero_parts : (n m : ℕ) (b : Bool) → n ≡ once_if b + m → n ≡ 0 → (b ≡ false) × (m ≡ 0)
zero_parts n m true h e = absurd (omega (arith, h, e))
zero_parts n m false h e = (refl, omega (arith, h, e))

-- the list of failures without one command
pub without_it : (c : CmdId) (fs : List Queued) → failures_of c.0 (without c fs) ≡ 0
without_it c [] = refl
without_it c (f ∷ fs) = elim (cases_Bool (f.0.0 == c.0)) as (λ _. failures_of c.0 (without c (f ∷ fs)) ≡ 0) [
  | inl is ↦ ap (λ (b : Bool). failures_of c.0 (cond (not b) (f ∷ without c fs) (without c fs))) is ∙ without_it c fs
  | inr isnt ↦
      ap (λ (b : Bool). failures_of c.0 (cond (not b) (f ∷ without c fs) (without c fs))) isnt
      ∙ (counts_not (failures_of c.0 (f ∷ without c fs)) (failures_of c.0 (without c fs)) (f.0.0 == c.0) (failures_cons c.0 f (without c fs)) isnt ∙ without_it c fs)
]

pub without_others : (c : CmdId) (d : ℕ) (fs : List Queued) → d ≢ c.0 → failures_of d (without c fs) ≡ failures_of d fs
without_others c d [] ne = refl
without_others c d (f ∷ fs) ne = elim (cases_Bool (f.0.0 == c.0)) as (λ _. failures_of d (without c (f ∷ fs)) ≡ failures_of d (f ∷ fs)) [
  | inl is ↦
      let e : f.0.0 ≡ c.0 = eqb-true f.0.0 c.0 is in
      let apart : (f.0.0 == d) ≡ false = differ (λ (g : f.0.0 ≡ d). ne (sym g ∙ e)) in
      ap (λ (b : Bool). failures_of d (cond (not b) (f ∷ without c fs) (without c fs))) is
      ∙ (without_others c d fs ne ∙ sym (counts_not (failures_of d (f ∷ fs)) (failures_of d fs) (f.0.0 == d) (failures_cons d f fs) apart))
  | inr isnt ↦
      ap (λ (b : Bool). failures_of d (cond (not b) (f ∷ without c fs) (without c fs))) isnt
      ∙ (failures_cons d f (without c fs) ∙ (ap (λ (n : ℕ). once_if (f.0.0 == d) + n) (without_others c d fs ne) ∙ sym (failures_cons d f fs)))
]

pub without_none : (c : CmdId) (fs : List Queued) → failures_of c.0 fs ≡ 0 → without c fs ≡ fs
without_none c [] none = refl
without_none c (f ∷ fs) none =
    let parts = zero_parts (failures_of c.0 (f ∷ fs)) (failures_of c.0 fs) (f.0.0 == c.0) (failures_cons c.0 f fs) none in
    ap (λ (b : Bool). cond (not b) (f ∷ without c fs) (without c fs)) parts.0 ∙ ap (λ (gs : List Queued). f ∷ gs) (without_none c fs parts.1)

longer : (n m k : ℕ) → n + m ≡ k → (n + 1) + m ≡ k + 1
longer n m k h = omega (arith, h)

counted : (n m k l : ℕ) → n + m ≡ k → l ≡ m + 1 → n + l ≡ k + 1
counted n m k l h e = omega (arith, h, e)

pub without_length : (c : CmdId) (fs : List Queued) → length (without c fs) + failures_of c.0 fs ≡ length fs
without_length c [] = refl
without_length c (f ∷ fs) = elim (cases_Bool (f.0.0 == c.0)) as (λ _. length (without c (f ∷ fs)) + failures_of c.0 (f ∷ fs) ≡ length (f ∷ fs)) [
  | inl is ↦
      let one = counts (failures_of c.0 (f ∷ fs)) (failures_of c.0 fs) (f.0.0 == c.0) (failures_cons c.0 f fs) is in
      ap (λ (b : Bool). length (cond (not b) (f ∷ without c fs) (without c fs)) + failures_of c.0 (f ∷ fs)) is
      ∙ (counted (length (without c fs)) (failures_of c.0 fs) (length fs) (failures_of c.0 (f ∷ fs)) (without_length c fs) one ∙ omega arith)
  | inr isnt ↦
      let none = counts_not (failures_of c.0 (f ∷ fs)) (failures_of c.0 fs) (f.0.0 == c.0) (failures_cons c.0 f fs) isnt in
      ap (λ (b : Bool). length (cond (not b) (f ∷ without c fs) (without c fs)) + failures_of c.0 (f ∷ fs)) isnt
      ∙ (ap (λ (n : ℕ). length (f ∷ without c fs) + n) none ∙ (omega (arith, without_length c fs)))
]

-- the journal's list without one command
pub filter_without : (c : CmdId) (fs : List Queued) → filter (λ f. not (f.cmd.0 == c.0)) (map failure_of fs) ≡ map failure_of (without c fs)
filter_without c [] = refl
filter_without c (f ∷ fs) = elim (cases_Bool (f.0.0 == c.0)) as (λ _. filter (λ g. not (g.cmd.0 == c.0)) (map failure_of (f ∷ fs)) ≡ map failure_of (without c (f ∷ fs))) [
  | inl is ↦ rw is (filter_without c fs)
  | inr isnt ↦ rw isnt (ap (λ (gs : List Failure). failure_of f ∷ gs) (filter_without c fs))
]

none_queued : (c : CmdId) (fs : List Queued) → failures_of c.0 fs ≡ 0 → is_queued c fs ≡ false
none_queued c [] none = refl
none_queued c (f ∷ fs) none =
    let parts = zero_parts (failures_of c.0 (f ∷ fs)) (failures_of c.0 fs) (f.0.0 == c.0) (failures_cons c.0 f fs) none in
    or_from (f.0.0 == c.0) (is_queued c fs) parts.0 (none_queued c fs parts.1)

pub unqueued : (c : CmdId) (fs : List Queued) → is_queued c fs ≡ false → failures_of c.0 fs ≡ 0
unqueued c [] none = refl
unqueued c (f ∷ fs) none =
    let parts = or_parts (f.0.0 == c.0) (is_queued c fs) none in
    counts_not (failures_of c.0 (f ∷ fs)) (failures_of c.0 fs) (f.0.0 == c.0) (failures_cons c.0 f fs) parts.0 ∙ unqueued c fs parts.1

pub queued_is : (c : CmdId) (fs : List Queued) (b : Bool) → failures_of c.0 fs ≡ once_if b → is_queued c fs ≡ b
queued_is c fs false h = none_queued c fs h
queued_is c fs true h = elim (cases_Bool (is_queued c fs)) as (λ _. is_queued c fs ≡ true) [
  | inl is ↦ is
  | inr isnt ↦ absurd (omega (arith, h, unqueued c fs isnt))
]

-- the attempts of commands other than c aren't the one that was sent for it
pub other_aborts_stay : (P : List Entry) (c : CmdId) (n : Attempt) (xs : List Abort) → sent_for n.0 P ≡ c.0 → list_all (is_for P) xs ≡ true → aborts_of c.0 xs ≡ 0
    → filter (λ m. not (m == n.0)) (map (λ x. x.1.0) xs) ≡ map (λ x. x.1.0) xs
other_aborts_stay P c n [] own each none = refl
other_aborts_stay P c n (x ∷ xs) own each none =
    let parts = zero_parts (aborts_of c.0 (x ∷ xs)) (aborts_of c.0 xs) (x.0.0 == c.0) (aborts_cons c.0 x xs) none in
    let fits = and_parts (is_for P x) (list_all (is_for P) xs) each in
    let its = eqb-true (sent_for x.1.0 P) x.0.0 (and_parts (was_sent x.1.0 P) (sent_for x.1.0 P == x.0.0) fits.0).1 in
    let apart : (x.1.0 == n.0) ≡ false = differ (λ (e : x.1.0 ≡ n.0). eqb-false x.0.0 c.0 parts.0 (sym its ∙ (ap (λ (m : ℕ). sent_for m P) e ∙ own))) in
    rw apart (ap (λ (ms : List ℕ). x.1.0 ∷ ms) (other_aborts_stay P c n xs own fits.1 parts.1))

-- attempts that were sent still are, and for the same commands
still_for : (b w : Bool) (c d m : ℕ) → b ≡ false → w && (d == m) ≡ true → cond b true w && (cond b c d == m) ≡ true
still_for true w c d m e h = absurd (false≢true (sym e))
still_for false w c d m e h = h

pub sent_later : (P : List Entry) (c : CmdId) (n : Attempt) (t : Tag) (xs : List Abort) → was_sent n.0 P ≡ false → list_all (is_for P) xs ≡ true → list_all (is_for (entry.Sent c n t ∷ P)) xs ≡ true
sent_later P c n t [] fresh each = refl
sent_later P c n t (x ∷ xs) fresh each =
    let parts = and_parts (is_for P x) (list_all (is_for P) xs) each in
    let sent = (and_parts (was_sent x.1.0 P) (sent_for x.1.0 P == x.0.0) parts.0).0 in
    let apart : (n.0 == x.1.0) ≡ false = differ (λ (e : n.0 ≡ x.1.0). false≢true (sym fresh ∙ (ap (λ (m : ℕ). was_sent m P) e ∙ sent))) in
    and_from (is_for (entry.Sent c n t ∷ P) x) (list_all (is_for (entry.Sent c n t ∷ P)) xs)
    (still_for (n.0 == x.1.0) (was_sent x.1.0 P) c.0 (sent_for x.1.0 P) x.0.0 apart parts.0) (sent_later P c n t xs fresh parts.1)

pub all_push : (p : Abort → Bool) (xs : List Abort) (x : Abort) → list_all p xs ≡ true → p x ≡ true → list_all p (xs ++ x ∷ []) ≡ true
all_push p [] x each h = and_from (p x) true h refl
all_push p (y ∷ ys) x each h = let parts = and_parts (p y) (list_all p ys) each in and_from (p y) (list_all p (ys ++ x ∷ [])) parts.0 (all_push p ys x parts.1 h)
