-- The numbers that a heap holds, under a key n of its elements.
use Rattle.std.proofs.Common.{◌≡◌, ◌∙◌, sym, ap, subst, refl, ℕ, ◌<◌, ◌≤◌, ◌==◌, Bool, true, false, not, ◌&&◌, ◌||◌, List, [], ◌∷◌, length, get_or, arith, inl, inr}
use Rattle.std.specs.Prelude.{Result, Ok, Err, IsOk, OnOk, IsSome, IfSome, Option, Some, None}
use Rattle.std.specs.List.{list_any, filter, AllByRecursion, count_by}
use Rattle.std.specs.List.Sorted.{IsPermutation}
use Rattle.std.specs.Ordering.{nat_cmp, is_lt}
use Rattle.std.proofs.lemmas.Bool.{cases_Bool, false≢true, eq-eqb, eqb-true}
use Rattle.std.proofs.lemmas.Bool.Decides.{nat_tests}
use Rattle.std.proofs.lemmas.List.Sorted.{list_any-IsPermutation}
use Rattle.std.proofs.lemmas.List.Sums.{length-filter, count_by-le-length}

and_none : (b : Bool) → b && false ≡ false
and_none true = refl
and_none false = refl

pub at_ok : {T E P : Type 0} (r : Result T E) → IsOk r → OnOk r P → P
at_ok (Ok x) is h = h
at_ok (Err e) is h = absurd (false≢true is)

module _ {X : Type 0} (n : X → ℕ) where
  -- some element of the list has this number
  abbrev pub holds : ℕ → List X → Bool
  holds j xs = list_any (λ x. n x == j) xs

  pub first_held : (xs : List X) (x : X) → 0 < length xs → x ≡ get_or xs 0 x → holds (n x) xs ≡ true
  first_held [] x some is = absurd (omega (arith, some))
  first_held (y ∷ xs) x some is = rw (eq-eqb (n y) (n x) (ap n (sym is))) refl

  -- none is less than one that is less than all
  pub none_below : (xs : List X) (x : X) → AllByRecursion (λ y. is_lt (nat_cmp (n y) (n x)) ≡ false) xs → (k : ℕ) → k < n x → holds k xs ≡ false
  none_below [] x all k lt = refl
  none_below (y ∷ xs) x all k lt = rw (above (n y) (n x) k all.0 lt, none_below xs x all.1 k lt) refl
    where
      above : (a b k : ℕ) → is_lt (nat_cmp a b) ≡ false → k < b → (a == k) ≡ false
      above a b k h lt = grind (arith, nat_tests)

  pub none_held : (xs : List X) → length xs ≡ 0 → (k : ℕ) → holds k xs ≡ false
  none_held [] none k = refl
  none_held (x ∷ xs) none k = absurd (omega (arith, none))

  -- one is added, or taken away
  pub added_held : (x : X) (xs ys : List X) → IsPermutation (x ∷ xs) ys → (j : ℕ) → holds j ys ≡ ((n x == j) || holds j xs)
  added_held x xs ys moves j = sym (list_any-IsPermutation (λ y. n y == j) (x ∷ xs) ys moves)

  pub popped_held : (x : X) (xs ys : List X) → IsPermutation xs (x ∷ ys) → (j : ℕ) → (n x == j) ≡ false → holds j ys ≡ holds j xs
  popped_held x xs ys moves j isnt = sym (list_any-IsPermutation (λ y. n y == j) xs (x ∷ ys) moves ∙ ap (λ (b : Bool). b || holds j ys) isnt)

  -- the first was taken away, and had this number
  pub popped_first : (xs ys : List X) (least : X) (top : Option X) (order j : ℕ) → 0 < length xs → least ≡ get_or xs 0 least → (n least == order) ≡ true → IsSome top
      → IfSome top (λ x. x ≡ get_or xs 0 x) → IfSome top (λ x. IsPermutation xs (x ∷ ys)) → (order == j) ≡ false → holds j ys ≡ holds j xs
  popped_first xs ys least None order j long first is some top moves isnt = absurd (false≢true some)
  popped_first [] ys least (Some x) order j long first is some top moves isnt = absurd (omega (arith, long))
  popped_first (z ∷ xs) ys least (Some x) order j long first is some top moves isnt =
      popped_held x (z ∷ xs) ys moves j (ap (λ (k : ℕ). k == j) (ap n (top ∙ sym first) ∙ eqb-true (n least) order is) ∙ isnt)

  -- those of one number are taken away
  pub left_held : (order : ℕ) (xs : List X) (j : ℕ) → holds j (filter (λ x. not (n x == order)) xs) ≡ (not (order == j) && holds j xs)
  left_held order [] j = sym (and_none (not (order == j)))
  left_held order (x ∷ xs) j = elim (cases_Bool (n x == order)) as (λ _. holds j (filter (λ y. not (n y == order)) (x ∷ xs)) ≡ (not (order == j) && holds j (x ∷ xs))) [
    | inl is ↦
        let e : n x ≡ order = eqb-true (n x) order is in
        rw is (left_held order xs j ∙ gone (order == j) (holds j xs) ∙ ap (λ (k : ℕ). not (order == j) && ((k == j) || holds j xs)) (sym e))
    | inr isnt ↦ rw isnt (ap (λ (b : Bool). (n x == j) || b) (left_held order xs j) ∙ kept (order == j) (n x == j) (holds j xs) (λ one other. false≢true (sym isnt ∙ eq-eqb (n x) order (eqb-true (n x) j other ∙ sym (eqb-true order j one)))))
  ]
    where
      gone : (b a : Bool) → not b && a ≡ not b && (b || a)
      gone true a = refl
      gone false a = refl

      kept : (b c a : Bool) → (b ≡ true → c ≡ true → ⊥) → c || (not b && a) ≡ not b && (c || a)
      kept true true a apart = absurd (apart refl refl)
      kept true false a apart = refl
      kept false c a apart = refl

  pub fewer_left : (order : ℕ) (xs : List X) → holds order xs ≡ true → length (filter (λ x. not (n x == order)) xs) < length xs
  fewer_left order [] h = absurd (false≢true h)
  fewer_left order (x ∷ xs) h = elim (cases_Bool (n x == order)) as (λ _. length (filter (λ y. not (n y == order)) (x ∷ xs)) < length (x ∷ xs)) [
    | inl is ↦
        let counted : length (filter (λ y. not (n y == order)) xs) ≡ count_by (λ y. not (n y == order)) xs = length-filter (λ y. not (n y == order)) xs in
        let most : count_by (λ y. not (n y == order)) xs ≤ length xs = count_by-le-length (λ y. not (n y == order)) xs in
        rw is (omega (arith, counted, most))
    | inr isnt ↦
        let rest : length (filter (λ y. not (n y == order)) xs) < length xs = fewer_left order xs (subst (λ (b : Bool). b || holds order xs ≡ true) isnt h) in
        rw isnt (omega (arith, rest))
  ]
