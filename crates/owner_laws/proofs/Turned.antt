-- The two ways to speak of a journal: the entries that stand in it, the oldest first, and looking back over it, the newest first.
use Rattle.std.proofs.Common.{◌≡◌, List, [], ◌∷◌, ◌++◌, reverse, refl, sym, ◌∙◌, ap, subst, inl, inr, append_assoc}
use Rattle.std.proofs.lemmas.List.{reverse-append, reverse-reverse}
use Rattle.host_words.specs.Journals.{In}
use Rattle.host_words.proofs.Owning.{in_second}

module _ {A : Type 0} where
  -- who stands in a list stands at a place of it
  pub in_place : (x : A) (xs : List A) → In x xs → (before after : List A) × (xs ≡ before ++ x ∷ after)
  in_place x [] h = absurd h
  in_place x (y ∷ ys) (inl e) = ([], ys, ap (λ (z : A). z ∷ ys) (sym e))
  in_place x (y ∷ ys) (inr i) = let r = in_place x ys i in (y ∷ r.0, r.1, ap (λ (l : List A). y ∷ l) r.2)

  pub at_place : (x : A) (xs before after : List A) → xs ≡ before ++ x ∷ after → In x xs
  at_place x xs before after e = subst (In x) (sym e) (in_second x before (x ∷ after) (inl refl))

  -- what stood before x stands behind it
  pub turned_place : (before after : List A) (x : A) → reverse (before ++ x ∷ after) ≡ reverse after ++ x ∷ reverse before
  turned_place before after x =
      reverse-append before (x ∷ after)
      ∙ (ap (λ (l : List A). l ++ reverse before) (reverse-append (x ∷ []) after)
      ∙ append_assoc (reverse after) (x ∷ []) (reverse before))

  pub place_of_turned : (journal after before : List A) (x : A) → reverse journal ≡ after ++ x ∷ before → journal ≡ reverse before ++ x ∷ reverse after
  place_of_turned journal after before x e = sym (reverse-reverse journal) ∙ (ap reverse e ∙ turned_place after before x)

  -- y stands behind x
  pub place_behind : (xs before between after rest : List A) (x y : A) → xs ≡ before ++ x ∷ rest → rest ≡ between ++ y ∷ after → xs ≡ (before ++ x ∷ between) ++ y ∷ after
  place_behind xs before between after rest x y e f = e ∙ (ap (λ (l : List A). before ++ x ∷ l) f ∙ sym (append_assoc before (x ∷ between) (y ∷ after)))

  -- the same stand in both
  pub in_turned : (x : A) (xs : List A) → In x xs → In x (reverse xs)
  in_turned x xs h = let p = in_place x xs h in at_place x (reverse xs) (reverse p.1) (reverse p.0) (ap reverse p.2 ∙ turned_place p.0 p.1 x)

  pub in_unturned : (x : A) (xs : List A) → In x (reverse xs) → In x xs
  in_unturned x xs h = subst (In x) (reverse-reverse xs) (in_turned x (reverse xs) h)
