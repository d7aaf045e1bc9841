-- The claims of ascending attempts, after one attempt more waits, or waits no longer.
use Rattle.std.proofs.Common.{◌≡◌, ◌≢◌, ℕ, zero, suc, ◌+◌, ◌<◌, ◌≤◌, ◌==◌, Bool, true, false, not, ◌&&◌, cond, List, [], ◌∷◌, ◌++◌, length, Option, refl, sym, ap, ◌∙◌, subst, arith, inl, inr}
use Rattle.std.specs.Prelude.{nat_lt, insert, unwrap_or}
use Rattle.std.specs.List.{prefix_len, position, position_or_len}
use Rattle.std.proofs.Math.ListN.{length-append}
use Rattle.std.proofs.lemmas.Bool.{cases_Bool, cases_eq, eqb-true, eqb-false, eq-eqb, ne_eqb, lt-ltb, le-ltb, ltb-false}
use Rattle.std.proofs.lemmas.List.{append-nil}
use Rattle.std.proofs.lemmas.List.Elements.{filter-append}
use Rattle.mid_base.specs.declared.answers.By.TheVariants.{Answer as ByAnswer, Expiry as ByExpiry}
use Rattle.mid_base.specs.declared.entries.Entry.{Entry}
use Rattle.trace_model.specs.Claims.{claims_of, claims_among}
use Rattle.attempt_table.specs.declared.rows.Row.{Row}
use Rattle.attempt_table.specs.Rows.{open_in, answered_in, due_in, tag_in}
use Rattle.attempt_table.specs.Claims.{Claim, goes_before, claims_with, claims_without}
use Rattle.attempt_table.specs.AttemptsAgree.{countdown}
use Rattle.attempt_table.proofs.Shown.{claims_in}

-- the claims that f has for each of these numbers, which descend
abbrev pub among : (ℕ → List Claim) → List ℕ → List Claim
among f [] = []
among f (n ∷ ns) = among f ns ++ f n

-- claims of attempt n alone
abbrev pub AreOf : ℕ → List Claim → Type 0
AreOf n [] = Unit {0}
AreOf n (x ∷ xs) = (x.1.0 ≡ n) × AreOf n xs

pub own_claims : (n : ℕ) (x : Option Row) → AreOf n (claims_in n x)
own_claims n x = by_tests (open_in x) (answered_in x) (due_in x)
  where
    by_tests : (o t d : Bool) → AreOf n (cond (o && t) ((tag_in x, record { 0 = n }, ByAnswer) ∷ []) [] ++ cond (o && d) ((tag_in x, record { 0 = n }, ByExpiry) ∷ []) [])
    by_tests true true true = (refl, (refl, tt))
    by_tests true true false = (refl, tt)
    by_tests true false true = (refl, tt)
    by_tests true false false = tt
    by_tests false t d = tt

pub among_are : (P : List Entry) (f : ℕ → List Claim) (ns : List ℕ) → ((n : ℕ) → claims_of P n ≡ f n) → claims_among P ns ≡ among f ns
among_are P f [] h = refl
among_are P f (n ∷ ns) h = rw (among_are P f ns h, h n) refl

pub among_same : (f g : ℕ → List Claim) (ns : List ℕ) → ((n : ℕ) → g n ≡ f n) → among g ns ≡ among f ns
among_same f g [] h = refl
among_same f g (n ∷ ns) h = rw (among_same f g ns h, h n) refl

-- claims of earlier attempts
abbrev AllBelow : ℕ → List Claim → Type 0
AllBelow n [] = Unit {0}
AllBelow n (x ∷ xs) = (x.1.0 < n) × AllBelow n xs

below_append : (n : ℕ) (xs ys : List Claim) → AllBelow n xs → AllBelow n ys → AllBelow n (xs ++ ys)
below_append n [] ys h k = k
below_append n (x ∷ xs) ys h k = (h.0, below_append n xs ys h.1 k)

below_own : (n k : ℕ) (xs : List Claim) → AreOf k xs → k < n → AllBelow n xs
below_own n k [] own lt = tt
below_own n k (x ∷ xs) own lt = (omega (arith, own.0, lt), below_own n k xs own.1 lt)

below_among : (f : ℕ → List Claim) (n m : ℕ) → ((k : ℕ) → AreOf k (f k)) → m < n → AllBelow n (among f (countdown m))
below_among f n zero own lt = tt
below_among f n (suc m) own lt =
    below_append n (among f (countdown m)) (f (suc m)) (below_among f n m own (omega (arith, lt))) (below_own n (suc m) (f (suc m)) (own (suc m)) lt)

goes_behind : (c x : Claim) → x.1.0 < c.1.0 → goes_before c x ≡ false
goes_behind c x lt = rw (le-ltb c.1.0 x.1.0 (omega (arith, lt)), ne_eqb c.1.0 x.1.0 (λ e. absurd (omega (arith, e, lt)))) refl

goes_ahead : (c x : Claim) → c.1.0 < x.1.0 → goes_before c x ≡ true
goes_ahead c x lt = rw (lt-ltb c.1.0 x.1.0 lt) refl

with_later : (c : Claim) (xs ys : List Claim) → AllBelow c.1.0 xs → claims_with c (xs ++ ys) ≡ xs ++ claims_with c ys
with_later c [] ys h = refl
with_later c (x ∷ xs) ys h = rw (goes_behind c x h.0, with_later c xs ys h.1) refl

with_more : (c : Claim) (xs ys : List Claim) (k : ℕ) → AreOf k ys → c.1.0 < k → claims_with c (xs ++ ys) ≡ claims_with c xs ++ ys
with_more c [] [] k own lt = refl
with_more c [] (y ∷ ys) k own lt = rw (goes_ahead c y (omega (arith, lt, own.0))) refl
with_more c (x ∷ xs) ys k own lt = elim (cases_Bool (goes_before c x)) [
  | inl is ↦ rw is refl
  | inr isnt ↦ rw (isnt, with_more c xs ys k own lt) refl
]

-- where a claim is put
front_bound : {A : Type 0} (q : A → Bool) (xs : List A) → prefix_len q xs ≤ length xs
front_bound q [] = omega arith
front_bound q (x ∷ xs) = by_test (q x) (front_bound q xs)
  where
    by_test : (b : Bool) → prefix_len q xs ≤ length xs → cond b (1 + prefix_len q xs) 0 ≤ suc (length xs)
    by_test true rest = omega (arith, rest)
    by_test false rest = omega arith

pub put_place : {A : Type 0} (p : A → Bool) (xs : List A) → unwrap_or (position p xs) (length xs) ≡ position_or_len p xs
put_place p xs = elim (cases_Bool (nat_lt (position_or_len p xs) (length xs))) [
  | inl is ↦ rw is refl
  | inr isnt ↦ let bound : position_or_len p xs ≤ length xs = front_bound (λ x. not (p x)) xs in rw isnt (omega (arith, bound, ltb-false (position_or_len p xs) (length xs) isnt))
]

pub put_is : (c : Claim) (xs : List Claim) → insert xs (position_or_len (goes_before c) xs) c ≡ claims_with c xs
put_is c [] = refl
put_is c (x ∷ xs) = by_test (goes_before c x) (put_is c xs)
  where
    front : ℕ
    front = position_or_len (goes_before c) xs

    by_test : (b : Bool) → insert xs front c ≡ claims_with c xs → insert (x ∷ xs) (cond (not b) (1 + front) 0) c ≡ cond b (c ∷ x ∷ xs) (x ∷ claims_with c xs)
    by_test true rest = refl
    by_test false rest =
        let next : suc front ≡ 1 + front = omega arith in
        subst (λ (k : ℕ). insert (x ∷ xs) k c ≡ x ∷ claims_with c xs) next (ap (λ (ys : List Claim). x ∷ ys) rest)

same_below : (f g : ℕ → List Claim) (n m : ℕ) → m < n → ((k : ℕ) → k ≢ n → g k ≡ f k) → among g (countdown m) ≡ among f (countdown m)
same_below f g n zero lt others = refl
same_below f g n (suc m) lt others =
    rw (same_below f g n m (omega (arith, lt)) others, others (suc m) (λ e. absurd (omega (arith, lt, e)))) refl

-- attempt n has one claim more
pub among_with : (f g : ℕ → List Claim) (c : Claim) (n m : ℕ) → 0 < n → n ≤ m → ((k : ℕ) → AreOf k (f k)) → g n ≡ claims_with c (f n) → c.1.0 ≡ n
    → ((k : ℕ) → k ≢ n → g k ≡ f k) → among g (countdown m) ≡ claims_with c (among f (countdown m))
among_with f g c n zero some le own after number others = absurd (omega (arith, some, le))
among_with f g c n (suc m) some le own after number others = elim (cases_Bool (suc m == n)) [
  | inl is ↦
      let e : suc m ≡ n = eqb-true (suc m) n is in
      let one : g (suc m) ≡ claims_with c (f (suc m)) = subst (λ (k : ℕ). g k ≡ claims_with c (f k)) (sym e) after in
      let least = below_among f c.1.0 m own (omega (arith, e, number)) in
      rw (same_below f g n m (omega (arith, e)) others, one) (sym (with_later c (among f (countdown m)) (f (suc m)) least))
  | inr isnt ↦
      let ne : suc m ≢ n = eqb-false (suc m) n isnt in
      let rest = among_with f g c n m some (omega (arith, le, ne)) own after number others in
      rw (rest, others (suc m) ne)
      (sym (with_more c (among f (countdown m)) (f (suc m)) (suc m) (own (suc m)) (omega (arith, le, ne, number))))
]

-- attempt n waits no longer
pub none_left : (n : ℕ) (xs : List Claim) → AreOf n xs → claims_without n xs ≡ []
none_left n [] own = refl
none_left n (x ∷ xs) own = rw (eq-eqb x.1.0 n own.0) (none_left n xs own.1)

pub all_left : (n k : ℕ) (xs : List Claim) → AreOf k xs → k ≢ n → claims_without n xs ≡ xs
all_left n k [] own ne = refl
all_left n k (x ∷ xs) own ne = rw (ne_eqb x.1.0 n (λ e. ne (sym own.0 ∙ e))) (ap (λ (ys : List Claim). x ∷ ys) (all_left n k xs own.1 ne))

pub among_without : (f g : ℕ → List Claim) (n : ℕ) (ns : List ℕ) → ((k : ℕ) → AreOf k (f k)) → g n ≡ [] → ((k : ℕ) → k ≢ n → g k ≡ f k)
    → among g ns ≡ claims_without n (among f ns)
among_without f g n [] own after others = refl
among_without f g n (k ∷ ns) own after others =
    rw (among_without f g n ns own after others, one) (sym (filter-append (λ (x : Claim). not (x.1.0 == n)) (among f ns) (f k)))
  where
    one : g k ≡ claims_without n (f k)
    one = elim (cases_eq k n) [
      | inl e ↦ subst (λ (j : ℕ). g j ≡ claims_without n (f j)) (sym e) (after ∙ sym (none_left n (f n) (own n)))
      | inr ne ↦ others k ne ∙ sym (all_left n k (f k) (own k) ne)
    ]

-- how many claims are left then
pub among_length : (f g : ℕ → List Claim) (n m : ℕ) → 0 < n → n ≤ m → g n ≡ [] → ((k : ℕ) → k ≢ n → g k ≡ f k)
    → length (among g (countdown m)) + length (f n) ≡ length (among f (countdown m))
among_length f g n zero some le after others = absurd (omega (arith, some, le))
among_length f g n (suc m) some le after others = elim (cases_Bool (suc m == n)) [
  | inl is ↦
      let e : suc m ≡ n = eqb-true (suc m) n is in
      let none : g (suc m) ≡ [] = subst (λ (k : ℕ). g k ≡ []) (sym e) after in
      let here : f (suc m) ≡ f n = ap f e in
      rw (same_below f g n m (omega (arith, e)) others, none, append-nil (among f (countdown m)), here)
      (sym (length-append (among f (countdown m)) (f n)))
  | inr isnt ↦
      let ne : suc m ≢ n = eqb-false (suc m) n isnt in
      let rest = among_length f g n m some (omega (arith, le, ne)) after others in
      let left = length-append (among g (countdown m)) (f (suc m)) in
      let right = length-append (among f (countdown m)) (f (suc m)) in
      rw (others (suc m) ne) (omega (arith, rest, left, right))
]
