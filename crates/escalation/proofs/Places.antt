-- A device finds its place among others.
use Rattle.std.proofs.Common.{◌≡◌, ℕ, ◌+◌, ◌<◌, ◌≤◌, Bool, true, false, List, [], ◌∷◌, ◌++◌, take, drop, get_or, length, reverse, refl, sym, ap, ◌∙◌, subst, ltb, arith, append_assoc}
use Rattle.std.proofs.lemmas.List.{drop_more, take_more, take_all, drop_all}
use Rattle.mid_base.specs.declared.names.DevAddr.{DevAddr}
use Rattle.mid_base.specs.Address.{same_dev}
use Rattle.disposition.specs.Ladder.{address, with_dev}

pub passed_by : (d : DevAddr) (xs : List DevAddr) (i : ℕ) (e : DevAddr) → i < length xs → e ≡ get_or xs i e → same_dev d e ≡ false → ltb (address d) (address e) ≡ false
    → with_dev d xs ≡ take i xs ++ with_dev d (drop i xs) → with_dev d xs ≡ take (i + 1) xs ++ with_dev d (drop (i + 1) xs)
passed_by d xs i e lt is other more h =
    h ∙ (ap (λ (r : List DevAddr). take i xs ++ with_dev d r) (drop_more xs i e lt ∙ ap (λ (x : DevAddr). x ∷ drop (i + 1) xs) (sym is))
    ∙ (ap (λ (r : List DevAddr). take i xs ++ r) later ∙ (sym (append_assoc (take i xs) (e ∷ []) (with_dev d (drop (i + 1) xs)))
    ∙ ap (λ (r : List DevAddr). r ++ with_dev d (drop (i + 1) xs)) (ap (λ (x : DevAddr). take i xs ++ x ∷ []) is ∙ sym (take_more xs i e lt)))))
  where
    later : with_dev d (e ∷ drop (i + 1) xs) ≡ e ∷ with_dev d (drop (i + 1) xs)
    later = rw other (rw more refl)

pub is_there : (d : DevAddr) (xs : List DevAddr) (i : ℕ) (e : DevAddr) → i < length xs → e ≡ get_or xs i e → same_dev d e ≡ true
    → with_dev d xs ≡ take i xs ++ with_dev d (drop i xs) → with_dev d xs ≡ take i xs ++ drop i xs
is_there d xs i e lt is same h =
    h ∙ ap (λ (r : List DevAddr). take i xs ++ r) (ap (with_dev d) split ∙ (stays ∙ sym split))
  where
    split : drop i xs ≡ e ∷ drop (i + 1) xs
    split = drop_more xs i e lt ∙ ap (λ (x : DevAddr). x ∷ drop (i + 1) xs) (sym is)

    stays : with_dev d (e ∷ drop (i + 1) xs) ≡ e ∷ drop (i + 1) xs
    stays = rw same refl

pub goes_before : (d : DevAddr) (xs : List DevAddr) (i : ℕ) (e : DevAddr) → i < length xs → e ≡ get_or xs i e → same_dev d e ≡ false → ltb (address d) (address e) ≡ true
    → with_dev d xs ≡ take i xs ++ with_dev d (drop i xs) → with_dev d xs ≡ take i xs ++ d ∷ drop i xs
goes_before d xs i e lt is other less h =
    h ∙ ap (λ (r : List DevAddr). take i xs ++ r) (ap (with_dev d) split ∙ (comes ∙ ap (λ (r : List DevAddr). d ∷ r) (sym split)))
  where
    split : drop i xs ≡ e ∷ drop (i + 1) xs
    split = drop_more xs i e lt ∙ ap (λ (x : DevAddr). x ∷ drop (i + 1) xs) (sym is)

    comes : with_dev d (e ∷ drop (i + 1) xs) ≡ d ∷ e ∷ drop (i + 1) xs
    comes = rw other (rw less refl)

pub at_end : (d : DevAddr) (xs : List DevAddr) (i : ℕ) → length xs ≤ i → with_dev d xs ≡ take i xs ++ with_dev d (drop i xs) → with_dev d xs ≡ xs ++ d ∷ []
at_end d xs i le h =
    h ∙ (ap (λ (r : List DevAddr). r ++ with_dev d (drop i xs)) (take_all i xs le) ∙ ap (λ (r : List DevAddr). xs ++ with_dev d r) (drop_all i xs le))
