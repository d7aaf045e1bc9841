-- The greatest of a list that grows at its end.
use Rattle.std.proofs.Common.{◌≡◌, ℕ, List, [], ◌∷◌, ◌++◌, map, max, refl, sym, ap, ◌∙◌, arith}
use Rattle.drain_rounds.specs.Rounds.{greatest}

pub max_swap : (a b c : ℕ) → max a (max b c) ≡ max b (max a c)
max_swap a b c = grind arith

pub greatest_push : {A : Type 0} → (f : A → ℕ) (xs : List A) (y : A) → greatest (map f (xs ++ y ∷ [])) ≡ max (f y) (greatest (map f xs))
greatest_push f [] y = refl
greatest_push f (x ∷ xs) y = rw (greatest_push f xs y) (max_swap (f x) (f y) (greatest (map f xs)))
