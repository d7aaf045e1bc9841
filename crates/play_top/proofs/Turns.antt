-- Hosts with each number in turn are hosts in ascending numbers.
use Rattle.std.proofs.Common.{◌≡◌, ℕ, zero, suc, ◌<◌, ◌≤◌, ◌==◌, true, false, nat_le, List, [], ◌∷◌, ◌++◌, refl, sym, ap, ◌∙◌, subst, arith, inl, inr, append_assoc, if◌then◌else◌}
use Rattle.std.proofs.lemmas.List.{append-nil}
use Rattle.std.proofs.lemmas.Bool.{cases_Bool, cases_lt, eqb-true}
use Rattle.std.proofs.lemmas.Bool.Decides.{nat_tests}
use Rattle.report_text.specs.Order.{placed, ascending}

module _ {A : Type 0} (number : A → ℕ) where
  abbrev pub named : ℕ → List A → List A
  named n [] = []
  named n (x ∷ xs) = if number x == n then x ∷ named n xs else named n xs

  -- those with each number below n in turn
  unfoldable pub turns : ℕ → List A → List A
  turns zero xs = []
  turns (suc n) xs = turns n xs ++ named n xs

  -- each number is below n
  abbrev pub AllBelow : ℕ → List A → Type 0
  AllBelow n [] = Unit {0}
  AllBelow n (x ∷ xs) = (number x < n) × AllBelow n xs

  -- each number is at least n
  abbrev AllFrom : ℕ → List A → Type 0
  AllFrom n [] = Unit {0}
  AllFrom n (x ∷ xs) = (n ≤ number x) × AllFrom n xs

  below_more : (n : ℕ) (xs ys : List A) → AllBelow n xs → AllBelow (suc n) ys → AllBelow (suc n) (xs ++ ys)
  below_more n [] ys h g = g
  below_more n (x ∷ xs) ys h g = (omega (arith, h.0), below_more n xs ys h.1 g)

  named_below : (n : ℕ) (xs : List A) → AllBelow (suc n) (named n xs)
  named_below n [] = tt
  named_below n (x ∷ xs) = elim (cases_Bool (number x == n)) [
    | inl is ↦ rw is (omega (arith, eqb-true (number x) n is), named_below n xs)
    | inr isnt ↦ rw isnt (named_below n xs)
  ]

  named_from : (n : ℕ) (xs : List A) → AllFrom n (named n xs)
  named_from n [] = tt
  named_from n (x ∷ xs) = elim (cases_Bool (number x == n)) [
    | inl is ↦ rw is (omega (arith, eqb-true (number x) n is), named_from n xs)
    | inr isnt ↦ rw isnt (named_from n xs)
  ]

  turns_below : (n : ℕ) (xs : List A) → AllBelow n (turns n xs)
  unfolding turns
  turns_below zero xs = tt
  turns_below (suc n) xs = below_more n (turns n xs) (named n xs) (turns_below n xs) (named_below n xs)

  -- one that isn't less than any goes behind them
  placed_behind : (x : A) (xs ys : List A) → AllBelow (number x) xs → placed number x (xs ++ ys) ≡ xs ++ placed number x ys
  placed_behind x [] ys h = refl
  placed_behind x (y ∷ xs) ys h =
      let greater : nat_le (number x) (number y) ≡ false = grind (arith, nat_tests, h.0) in
      rw greater (ap (λ (zs : List A). y ∷ zs) (placed_behind x xs ys h.1))

  placed_first : (x : A) (n : ℕ) (ys : List A) → number x ≤ n → AllFrom n ys → placed number x ys ≡ x ∷ ys
  placed_first x n [] le h = refl
  placed_first x n (y ∷ ys) le h =
      let least : nat_le (number x) (number y) ≡ true = grind (arith, nat_tests, h.0) in
      rw least refl

  -- before those that aren't less it is placed among the others
  placed_among : (x : A) (n : ℕ) (xs ys : List A) → number x ≤ n → AllFrom n ys → placed number x (xs ++ ys) ≡ placed number x xs ++ ys
  placed_among x n [] ys le h = placed_first x n ys le h
  placed_among x n (y ∷ xs) ys le h = elim (cases_Bool (nat_le (number x) (number y))) [
    | inl is ↦ rw is refl
    | inr isnt ↦ rw isnt (ap (λ (zs : List A). y ∷ zs) (placed_among x n xs ys le h))
  ]

  -- one whose turn doesn't come
  turns_without : (n : ℕ) (x : A) (xs : List A) → n ≤ number x → turns n (x ∷ xs) ≡ turns n xs
  unfolding turns
  turns_without zero x xs le = refl
  turns_without (suc n) x xs le =
      let other : (number x == n) ≡ false = grind (arith, nat_tests, le) in
      rw other (ap (λ (zs : List A). zs ++ named n xs) (turns_without n x xs (omega (arith, le))))

  turns_placed : (n : ℕ) (x : A) (xs : List A) → number x < n → turns n (x ∷ xs) ≡ placed number x (turns n xs)
  unfolding turns
  turns_placed zero x xs lt = absurd (omega (arith, lt))
  turns_placed (suc n) x xs lt = elim (cases_Bool (number x == n)) [
    | inl is ↦
        let same = eqb-true (number x) n is in
        let first : placed number x (named n xs) ≡ x ∷ named n xs = placed_first x n (named n xs) (omega (arith, same)) (named_from n xs) in
        let less : AllBelow (number x) (turns n xs) = subst (λ (k : ℕ). AllBelow k (turns n xs)) (sym same) (turns_below n xs) in
        rw is (ap (λ (zs : List A). zs ++ x ∷ named n xs) (turns_without n x xs (omega (arith, same)))
        ∙ sym (placed_behind x (turns n xs) (named n xs) less ∙ ap (λ (zs : List A). turns n xs ++ zs) first))
    | inr isnt ↦
        let less : number x < n = grind (arith, nat_tests, isnt, lt) in
        rw isnt (ap (λ (zs : List A). zs ++ named n xs) (turns_placed n x xs less)
        ∙ sym (placed_among x n (turns n xs) (named n xs) (omega (arith, less)) (named_from n xs)))
  ]

  no_turns : (n : ℕ) → turns n [] ≡ []
  unfolding turns
  no_turns zero = refl
  no_turns (suc n) = ap (λ (zs : List A). zs ++ []) (no_turns n)

  pub turns_ascend : (n : ℕ) (xs : List A) → AllBelow n xs → turns n xs ≡ ascending number xs
  turns_ascend n [] h = no_turns n
  turns_ascend n (x ∷ xs) h = turns_placed n x xs h.0 ∙ ap (placed number x) (turns_ascend n xs h.1)

  -- what follows the turns below n
  pub turns_left : (n m : ℕ) (xs : List A) → n ≤ m → (rest : List A) × (turns n xs ++ rest ≡ turns m xs)
  unfolding turns
  turns_left n zero xs le = ([], let none : n ≡ zero = omega (arith, le) in subst (λ (k : ℕ). turns k xs ++ [] ≡ []) (sym none) refl)
  turns_left n (suc m) xs le = elim (cases_lt m n) [
    | inl lt ↦ ([], let same : n ≡ suc m = omega (arith, lt, le) in subst (λ (k : ℕ). turns k xs ++ [] ≡ turns (suc m) xs) (sym same) (append-nil (turns (suc m) xs)))
    | inr more ↦
        let later = turns_left n m xs more in
        (later.0 ++ named m xs, sym (append_assoc (turns n xs) later.0 (named m xs)) ∙ ap (λ (zs : List A). zs ++ named m xs) later.1)
  ]
