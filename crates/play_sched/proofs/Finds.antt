-- The least number whose step passes.
use Rattle.std.proofs.Common.{◌≡◌, ℕ, zero, suc, ◌<◌, true, false, List, [], ◌∷◌, ◌++◌, Bool, Option, None, Some, map, refl, sym, ap, ◌∙◌, subst, inl, inr, arith}
use Rattle.std.specs.Prelude.{find}
use Rattle.std.specs.Option.{option_or}
use Rattle.std.proofs.lemmas.Bool.{cases_lt}
use Rattle.std.proofs.lemmas.List.{map-append}
use Rattle.std.proofs.lemmas.List.Folds.{find-append}
use Rattle.mid_base.specs.declared.steps.Step.{Step}
use Rattle.drain_rounds.specs.Rounds.{numbers_to}

module _ (p : Step → Bool) (f : ℕ → Step) where
  one_more : (k : ℕ) → find p (map f (numbers_to (suc k))) ≡ option_or (find p (map f (numbers_to k))) (find p (f k ∷ []))
  one_more k = ap (find p) (map-append f (numbers_to k) (k ∷ [])) ∙ find-append p (map f (numbers_to k)) (f k ∷ [])

  pub none_below : (k : ℕ) → ((n : ℕ) → n < k → p (f n) ≡ false) → find p (map f (numbers_to k)) ≡ None
  none_below zero h = refl
  none_below (suc k) h =
      one_more k ∙ rw (none_below k (λ n lt. h n (omega (arith, lt))), h k (omega arith)) refl

  pub least_below : (k m : ℕ) → m < k → p (f m) ≡ true → ((n : ℕ) → n < m → p (f n) ≡ false) → find p (map f (numbers_to k)) ≡ Some (f m)
  least_below zero m lt passes fails = absurd (omega (arith, lt))
  least_below (suc k) m lt passes fails = elim (cases_lt m k) [
    | inl less ↦ one_more k ∙ rw (least_below k m less passes fails) refl
    | inr more ↦
        let same : m ≡ k = omega (arith, lt, more) in
        let here : p (f k) ≡ true = subst (λ (n : ℕ). p (f n) ≡ true) same passes in
        one_more k ∙ (rw (none_below k (λ n l. fails n (omega (arith, l, same))), here) (ap (λ (n : ℕ). Some (f n)) (sym same)))
  ]
