-- Sums over the views, and what a change of one view does to a fact about each.
use Rattle.std.proofs.Common.{◌≡◌, ◌≢◌, ℕ, zero, suc, ◌+◌, ◌≤◌, List, [], ◌∷◌, ◌++◌, set, sym, ap, refl, subst, ⊎_elim, arith}
use mathlib.Core.Option.{some, some-injective, some-ne-none}
use lib.ListN.{get_elem?}
use Rattle.atomic_table.proofs.Lists.{at_set, at_snoc}
use Rattle.host_words.specs.declared.view.Range.{Range}
use Rattle.host_words.specs.Views.{total}
use Rattle.host_words.specs.Places.{covers}

module _ {V : Type 0} where
  pub total_set : (f : V → ℕ) (vs : List V) (j : ℕ) (v w : V) → get_elem? vs j ≡ some v → total f (set vs j w) + f v ≡ total f vs + f w
  total_set f [] j v w e = absurd (some-ne-none v (sym e))
  total_set f (x ∷ xs) zero v w e = let is = ap f (some-injective x v e) in omega arith
  total_set f (x ∷ xs) (suc j) v w e = omega (arith, total_set f xs j v w e)

  pub total_snoc : (f : V → ℕ) (vs : List V) (w : V) → total f (vs ++ w ∷ []) ≡ total f vs + f w
  total_snoc f [] w = omega arith
  total_snoc f (x ∷ xs) w = omega (arith, total_snoc f xs w)

  pub total_le : (f g : V → ℕ) (vs : List V) → ((j : ℕ) (v : V) → get_elem? vs j ≡ some v → f v ≤ g v) → total f vs ≤ total g vs
  total_le f g [] each = omega arith
  total_le f g (x ∷ xs) each = omega (arith, each 0 x refl, total_le f g xs (λ j v e. each (suc j) v e))

  pub total_none : (f : V → ℕ) (vs : List V) → ((j : ℕ) (v : V) → get_elem? vs j ≡ some v → f v ≡ 0) → total f vs ≡ 0
  total_none f [] each = refl
  total_none f (x ∷ xs) each = omega (arith, each 0 x refl, total_none f xs (λ j v e. each (suc j) v e))

  -- a fact about each view stays where one changes
  pub each_set : (K : ℕ → V → Type 0) (vs : List V) (me : ℕ) (w : V) → K me w → ((j : ℕ) (v : V) → j ≢ me → get_elem? vs j ≡ some v → K j v)
      → (j : ℕ) (v : V) → get_elem? (set vs me w) j ≡ some v → K j v
  each_set K vs me w mine others j v e = ⊎_elim (λ (t : (j ≡ me) × (w ≡ v)). subst (λ (x : ℕ × V). K x.0 x.1) (λ i. (sym t.0 i, t.1 i)) mine)
      (λ (t : (j ≢ me) × (get_elem? vs j ≡ some v)). others j v t.0 t.1) (at_set vs me j w v e)

  pub each_snoc : (K : V → Type 0) (vs : List V) (w : V) → K w → ((j : ℕ) (v : V) → get_elem? vs j ≡ some v → K v) → (j : ℕ) (v : V) → get_elem? (vs ++ w ∷ []) j ≡ some v → K v
  each_snoc K vs w mine others j v e = ⊎_elim (others j v) (λ (t : w ≡ v). subst K t mine) (at_snoc vs w v j e)

pub covers-append : (p : ℕ) (xs ys : List Range) → covers p (xs ++ ys) ≡ covers p xs + covers p ys
covers-append p [] ys = omega arith
covers-append p (r ∷ rs) ys = omega (arith, covers-append p rs ys)
