-- Numbers that count down, and how often one stands in a list.
use Rattle.std.proofs.Common.{◌≡◌, ℕ, zero, suc, pred, ◌+◌, ◌<◌, ◌≤◌, ◌==◌, Bool, true, false, cond, List, [], ◌∷◌, ◌++◌, length, get_or, refl, ◌∙◌, arith, add-one, inl, inr}
use Rattle.std.proofs.lemmas.Bool.{cases_Bool, eqb-true, ne_eqb, eq-eqb, ltb-false, le-ltb, lt-ltb}
use Rattle.attempt_table.specs.AttemptsAgree.{countdown, times}
use Rattle.std.specs.Prelude.{All, Contains, remove, nat_lt, ◌||◌}
use Rattle.std.specs.List.{list_any, position, position_or_len}
use Rattle.std.proofs.lemmas.List.Quantifiers.{position-Some}
use Rattle.std.proofs.Common.{subst, Option, Some, None}

pub countdown_more : (n : ℕ) → countdown (n + 1) ≡ (n + 1) ∷ countdown n
countdown_more n = rw add-one refl

-- one more late answer
pub times_more : (n m : ℕ) (ms : List ℕ) → times n (ms ++ m ∷ []) ≡ cond (m == n) (times n ms + 1) (times n ms)
times_more n m [] = refl
times_more n m (k ∷ ms) = rw (times_more n m ms) (elim (cases_Bool (k == n)) [
  | inl is ↦ elim (cases_Bool (m == n)) [ inl also ↦ rw (is, also) refl | inr isnt ↦ rw (is, isnt) refl ]
  | inr isnt ↦ rw isnt refl
])

-- the least number of a list
times_none : (n : ℕ) (ms : List ℕ) → All (λ x. n < x) ms → times n ms ≡ 0
times_none n [] h = refl
times_none n (m ∷ ms) h =
    let above : n < m = h 0 0 (omega arith) in
    rw (ne_eqb m n (λ e. absurd (omega (arith, e, above)))) (times_none n ms (λ k d lt. h (suc k) d (omega (arith, lt))))

pub times_below : (m : ℕ) (ms : List ℕ) → All (λ x. m ≤ x) ms → (n : ℕ) → n < m → times n ms ≡ 0
times_below m ms h n lt = times_none n ms (λ k d inside. let le : m ≤ get_or ms k d = h k d inside in omega (arith, lt, le))

times_at : (m : ℕ) (ms : List ℕ) (k : ℕ) → k < length ms → get_or ms k m ≡ m → 0 < times m ms
times_at m [] k lt e = absurd (omega (arith, lt))
times_at m (x ∷ ms) zero lt e = rw (eq-eqb x m e) (omega arith)
times_at m (x ∷ ms) (suc k) lt e =
    let rest : 0 < times m ms = times_at m ms k (omega (arith, lt)) e in
    elim (cases_Bool (x == m)) [ inl is ↦ rw is (omega arith) | inr isnt ↦ rw isnt rest ]

pub times_some : (m : ℕ) (ms : List ℕ) → Contains ms m → 0 < times m ms
times_some m ms h = times_at m ms h.0 h.1 h.2

-- one late answer less, at its place
times_there : (m : ℕ) (ms : List ℕ) (k d : ℕ) → k < length ms → get_or ms k d ≡ m → 0 < times m ms
times_there m [] k d lt e = absurd (omega (arith, lt))
times_there m (x ∷ ms) zero d lt e = rw (eq-eqb x m e) (omega arith)
times_there m (x ∷ ms) (suc k) d lt e =
    let rest : 0 < times m ms = times_there m ms k d (omega (arith, lt)) e in
    elim (cases_Bool (x == m)) [ inl is ↦ rw is (omega arith) | inr isnt ↦ rw isnt rest ]

pub times_less : (n m : ℕ) (ms : List ℕ) (k d : ℕ) → k < length ms → get_or ms k d ≡ n
    → times m (remove ms k) ≡ cond (n == m) (pred (times m ms)) (times m ms)
times_less n m [] k d lt e = absurd (omega (arith, lt))
times_less n m (x ∷ ms) zero d lt e = rw e (by_test (n == m))
  where
    by_test : (b : Bool) → times m ms ≡ cond b (pred (cond b (times m ms + 1) (times m ms))) (cond b (times m ms + 1) (times m ms))
    by_test true = rw add-one refl
    by_test false = refl
times_less n m (x ∷ ms) (suc k) d lt e =
    let rest = times_less n m ms k d (omega (arith, lt)) e in
    let some : (n == m) ≡ true → 0 < times m ms = λ is. times_there m ms k d (omega (arith, lt)) (e ∙ eqb-true n m is) in
    rw rest (by_tests (x == m) (n == m) (times m ms) some)
  where
    by_tests : (b c : Bool) (t : ℕ) → (c ≡ true → 0 < t) → cond b (cond c (pred t) t + 1) (cond c (pred t) t) ≡ cond c (pred (cond b (t + 1) t)) (cond b (t + 1) t)
    by_tests true true zero some = absurd (omega (arith, some refl))
    by_tests true true (suc t) some = rw (add-one, add-one) refl
    by_tests true false t some = refl
    by_tests false true t some = refl
    by_tests false false t some = refl

pub times_absent : (n m : ℕ) (ms : List ℕ) → times n ms ≡ 0 → times m ms ≡ cond (n == m) (pred (times m ms)) (times m ms)
times_absent n m ms none = elim (cases_Bool (n == m)) [
  | inl is ↦ let here : times m ms ≡ 0 = subst (λ (j : ℕ). times j ms ≡ 0) (eqb-true n m is) none in rw (is, here) refl
  | inr isnt ↦ rw isnt refl
]

pub times_of_none : (n : ℕ) (ms : List ℕ) → nat_lt (position_or_len (λ x. x == n) ms) (length ms) ≡ false → times n ms ≡ 0
times_of_none n [] past = refl
times_of_none n (x ∷ ms) past = elim (cases_Bool (x == n)) [
  | inl is ↦ let first : nat_lt 0 (length (x ∷ ms)) ≡ false = rw is at past in absurd (omega (arith, ltb-false 0 (length (x ∷ ms)) first))
  | inr isnt ↦
      let later : nat_lt (1 + position_or_len (λ y. y == n) ms) (length (x ∷ ms)) ≡ false = rw isnt at past in
      let le = ltb-false (1 + position_or_len (λ y. y == n) ms) (length (x ∷ ms)) later in
      rw isnt (times_of_none n ms (le-ltb (position_or_len (λ y. y == n) ms) (length ms) (omega (arith, le))))
]

pub times_less_where : (n m : ℕ) (ms : List ℕ) (k : ℕ) → position (λ x. x == n) ms ≡ Some k → times m (remove ms k) ≡ cond (n == m) (pred (times m ms)) (times m ms)
times_less_where n m ms k at =
    let there = position-Some (λ x. x == n) ms k 0 at in
    times_less n m ms k 0 there.0 (eqb-true (get_or ms k 0) n there.1)

pub times_where_none : (n m : ℕ) (ms : List ℕ) → position (λ x. x == n) ms ≡ None → times m ms ≡ cond (n == m) (pred (times m ms)) (times m ms)
times_where_none n m ms at = elim (cases_Bool (nat_lt (position_or_len (λ x. x == n) ms) (length ms))) [
  | inl is ↦ let some : ◌≡◌ {A = Option ℕ} (Some (position_or_len (λ x. x == n) ms)) None = rw is at at in cc
  | inr isnt ↦ times_absent n m ms (times_of_none n ms isnt)
]

-- a number stands in a list where one of the list is it
pub times_any : (n : ℕ) (ms : List ℕ) → nat_lt 0 (times n ms) ≡ list_any (λ (m : ℕ). m == n) ms
times_any n [] = refl
times_any n (m ∷ ms) = by_test (m == n) (times n ms) _ (times_any n ms)
  where
    by_test : (b : Bool) (k : ℕ) (r : Bool) → nat_lt 0 k ≡ r → nat_lt 0 (cond b (k + 1) k) ≡ b || r
    by_test true k r h = lt-ltb 0 (k + 1) (omega arith)
    by_test false k r h = h
