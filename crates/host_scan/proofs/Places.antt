-- A target finds its place among others.
use Rattle.std.proofs.Common.{◌≡◌, ℕ, ◌+◌, ◌<◌, ◌≤◌, true, false, List, [], ◌∷◌, ◌++◌, take, drop, get_or, length, refl, sym, ap, ◌∙◌, append_assoc}
use Rattle.std.proofs.lemmas.List.{drop_more, take_more, take_all, drop_all}
use Rattle.host_scan.specs.declared.target.Target.{Target}
use Rattle.host_scan.specs.Targets.{comes_before, same_target, with_target}

pub passed_by : (t : Target) (xs : List Target) (i : ℕ) (u : Target) → i < length xs → u ≡ get_or xs i u → same_target t u ≡ false → comes_before t u ≡ false
    → with_target t xs ≡ take i xs ++ with_target t (drop i xs) → with_target t xs ≡ take (i + 1) xs ++ with_target t (drop (i + 1) xs)
passed_by t xs i u lt is other more h =
    h ∙ (ap (λ (r : List Target). take i xs ++ with_target t r) (drop_more xs i u lt ∙ ap (λ (x : Target). x ∷ drop (i + 1) xs) (sym is))
    ∙ (ap (λ (r : List Target). take i xs ++ r) later ∙ (sym (append_assoc (take i xs) (u ∷ []) (with_target t (drop (i + 1) xs)))
    ∙ ap (λ (r : List Target). r ++ with_target t (drop (i + 1) xs)) (ap (λ (x : Target). take i xs ++ x ∷ []) is ∙ sym (take_more xs i u lt)))))
  where
    later : with_target t (u ∷ drop (i + 1) xs) ≡ u ∷ with_target t (drop (i + 1) xs)
    later = rw other (rw more refl)

pub is_there : (t : Target) (xs : List Target) (i : ℕ) (u : Target) → i < length xs → u ≡ get_or xs i u → same_target t u ≡ true
    → with_target t xs ≡ take i xs ++ with_target t (drop i xs) → with_target t xs ≡ take i xs ++ drop i xs
is_there t xs i u lt is same h =
    h ∙ ap (λ (r : List Target). take i xs ++ r) (ap (with_target t) split ∙ (stays ∙ sym split))
  where
    split : drop i xs ≡ u ∷ drop (i + 1) xs
    split = drop_more xs i u lt ∙ ap (λ (x : Target). x ∷ drop (i + 1) xs) (sym is)

    stays : with_target t (u ∷ drop (i + 1) xs) ≡ u ∷ drop (i + 1) xs
    stays = rw same refl

pub goes_before : (t : Target) (xs : List Target) (i : ℕ) (u : Target) → i < length xs → u ≡ get_or xs i u → same_target t u ≡ false → comes_before t u ≡ true
    → with_target t xs ≡ take i xs ++ with_target t (drop i xs) → with_target t xs ≡ take i xs ++ t ∷ drop i xs
goes_before t xs i u lt is other less h =
    h ∙ ap (λ (r : List Target). take i xs ++ r) (ap (with_target t) split ∙ (comes ∙ ap (λ (r : List Target). t ∷ r) (sym split)))
  where
    split : drop i xs ≡ u ∷ drop (i + 1) xs
    split = drop_more xs i u lt ∙ ap (λ (x : Target). x ∷ drop (i + 1) xs) (sym is)

    comes : with_target t (u ∷ drop (i + 1) xs) ≡ t ∷ u ∷ drop (i + 1) xs
    comes = rw other (rw less refl)

pub at_end : (t : Target) (xs : List Target) (i : ℕ) → length xs ≤ i → with_target t xs ≡ take i xs ++ with_target t (drop i xs) → with_target t xs ≡ xs ++ t ∷ []
at_end t xs i le h =
    h ∙ (ap (λ (r : List Target). r ++ with_target t (drop i xs)) (take_all i xs le) ∙ ap (λ (r : List Target). xs ++ with_target t r) (drop_all i xs le))
