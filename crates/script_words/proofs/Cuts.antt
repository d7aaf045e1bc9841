-- How the first word, and the first part, is cut off.
use Rattle.std.proofs.Common.{◌≡◌, ◌==◌, ℕ, zero, suc, ◌+◌, ◌<◌, ◌≤◌, Bool, true, false, not, cond, List, [], ◌∷◌, length, take, drop, take_while, filter, refl, sym, ap, ◌∙◌, arith, inl, inr, add-one, one-add, length-take}
use Rattle.std.specs.List.{prefix_len, onto_first, slice_split, position_or_len}
use Rattle.std.proofs.lemmas.List.Sums.{prefix_len-le-length}
use Rattle.std.proofs.lemmas.List.Splits.{slice_split_first}
use Rattle.std.proofs.lemmas.Bool.{cases_Bool}
use Rattle.script_words.specs.Pieces.{pieces, is_blank, is_nonempty, words, parts}

-- how many bytes come before the first that ends a piece
abbrev pub front : (ℕ → Bool) → List ℕ → ℕ
front ends [] = 0
front ends (b ∷ bs) = cond (ends b) 0 (suc (front ends bs))

front_is : (ends : ℕ → Bool) (s : List ℕ) → prefix_len (λ b. not (ends b)) s ≡ front ends s
front_is ends [] = refl
front_is ends (b ∷ bs) =
    elim (ends b) as (λ v. cond (not v) (1 + prefix_len (λ x. not (ends x)) bs) 0 ≡ cond v 0 (suc (front ends bs))) [ true ↦ refl | false ↦ rw one-add (ap suc (front_is ends bs)) ]

pub len_is : (ends : ℕ → Bool) (s : List ℕ) → length (take_while (λ b. not (ends b)) s) ≡ front ends s
len_is ends s = omega (arith, length-take (prefix_len (λ b. not (ends b)) s) s, prefix_len-le-length (λ b. not (ends b)) s, front_is ends s)

pub pieces_cut : (ends : ℕ → Bool) (b : ℕ) (bs : List ℕ) → pieces ends (b ∷ bs) ≡ take (front ends (b ∷ bs)) (b ∷ bs) ∷ pieces ends (drop (suc (front ends (b ∷ bs))) (b ∷ bs))
pieces_cut ends b [] =
    elim (ends b) as (λ v. cond v ([] ∷ []) ((b ∷ []) ∷ []) ≡ take (cond v 0 1) (b ∷ []) ∷ pieces ends (drop (suc (cond v 0 1)) (b ∷ []))) [ true ↦ refl | false ↦ refl ]
pieces_cut ends b (c ∷ cs) =
    elim (ends b) as (λ v. cond v ([] ∷ pieces ends (c ∷ cs)) (onto_first b (pieces ends (c ∷ cs))) ≡ take (cond v 0 (suc (front ends (c ∷ cs)))) (b ∷ c ∷ cs) ∷ pieces ends (drop (suc (cond v 0 (suc (front ends (c ∷ cs))))) (b ∷ c ∷ cs))) [
      | true ↦ refl
      | false ↦ ap (onto_first b) (pieces_cut ends c cs)
    ]

drop_suc : (n : ℕ) (s : List ℕ) → drop 1 (drop n s) ≡ drop (suc n) s
drop_suc zero [] = refl
drop_suc zero (b ∷ bs) = refl
drop_suc (suc n) [] = refl
drop_suc (suc n) (b ∷ bs) = drop_suc n bs

pub parts_cut : (c : ℕ) (s : List ℕ) (n : ℕ) → n ≡ length (take_while (λ b. not (b == c)) s) → n < length s → parts c s ≡ take n s ∷ parts c (drop 1 (drop n s))
unfolding parts
parts_cut c s n e lt =
    let p : ℕ → Bool = λ b. b == c in
    let k : position_or_len p s ≡ n = omega (arith, e, length-take (position_or_len p s) s, prefix_len-le-length (λ b. not (p b)) s) in
    rw (drop_suc n s, ← add-one, ← k) (slice_split_first p s 0 (omega arith))

split_whole : (p : ℕ → Bool) (s : List ℕ) → front p s ≡ length s → slice_split p s ≡ s ∷ []
split_whole p [] e = refl
split_whole p (b ∷ bs) e =
    elim (cases_Bool (p b)) [
      | inl t ↦ absurd (let h = rw t at e in omega (arith, h))
      | inr f ↦ rw f (let h = rw f at e in ap (onto_first b) (split_whole p bs (omega (arith, h))))
    ]

pub parts_end : (c : ℕ) (s : List ℕ) (n : ℕ) → n ≡ length (take_while (λ b. not (b == c)) s) → n ≡ length s → parts c s ≡ s ∷ []
unfolding parts
parts_end c s n e all = split_whole (λ b. b == c) s (sym (len_is (λ b. b == c) s) ∙ (sym e ∙ all))

-- what is left of the pieces without the empty ones
abbrev full : (ℕ → Bool) → List ℕ → List (List ℕ)
full p s = filter is_nonempty (pieces p s)

abbrev lead : (ℕ → Bool) → List ℕ → ℕ
lead p [] = 0
lead p (b ∷ bs) = cond (p b) (suc (lead p bs)) 0

lead_is : (p : ℕ → Bool) (s : List ℕ) → prefix_len p s ≡ lead p s
lead_is p [] = refl
lead_is p (b ∷ bs) = elim (p b) as (λ v. cond v (1 + prefix_len p bs) 0 ≡ cond v (suc (lead p bs)) 0) [ true ↦ rw one-add (ap suc (lead_is p bs)) | false ↦ refl ]

lead_len : (p : ℕ → Bool) (s : List ℕ) → length (take_while p s) ≡ lead p s
lead_len p s = omega (arith, length-take (prefix_len p s) s, prefix_len-le-length p s, lead_is p s)

pub blanks_within : (s : List ℕ) → length (take_while is_blank s) ≤ length s
blanks_within s = omega (arith, length-take (prefix_len is_blank s) s)

-- what ends a piece says nothing in front
full_lead : (p : ℕ → Bool) (s : List ℕ) → full p s ≡ full p (drop (lead p s) s)
full_lead p [] = refl
full_lead p (b ∷ bs) = elim (cases_Bool (p b)) [ inl t ↦ rw t (full_lead p bs) | inr f ↦ let none : lead p (b ∷ bs) ≡ 0 = rw f refl in ap (λ (n : ℕ). full p (drop n (b ∷ bs))) (sym none) ]

after_full : (p : ℕ → Bool) (s : List ℕ) → full p (drop (front p s) s) ≡ full p (drop (suc (front p s)) s)
after_full p [] = refl
after_full p (b ∷ bs) = elim (cases_Bool (p b)) [ inl t ↦ let none : front p (b ∷ bs) ≡ 0 = rw t refl in rw none (rw t refl) | inr f ↦ rw f (after_full p bs) ]

lead_stops : (p : ℕ → Bool) (s : List ℕ) → front p (drop (lead p s) s) ≡ 0 → drop (lead p s) s ≡ []
lead_stops p [] e = refl
lead_stops p (b ∷ bs) e = elim (cases_Bool (p b)) [ inl t ↦ rw t (lead_stops p bs (rw t at e)) | inr f ↦ absurd (let h = rw f at e in cc h) ]

full_front : (p : ℕ → Bool) (t : List ℕ) → 0 < front p t → full p t ≡ take (front p t) t ∷ full p (drop (front p t) t)
full_front p [] some = absurd (omega arith)
full_front p (b ∷ bs) some =
    elim (cases_Bool (p b)) [
      | inl t ↦ absurd (let h = rw t at some in omega (arith, h))
      | inr f ↦ ap (filter is_nonempty) (pieces_cut p b bs) ∙ rw f (ap (λ (r : List (List ℕ)). (b ∷ take (front p bs) bs) ∷ r) (sym (after_full p bs)))
    ]

pub words_cut : (s : List ℕ) (k n : ℕ) → k ≡ length (take_while is_blank s) → n ≡ length (take_while (λ b. not (is_blank b)) (drop k s)) → 0 < n → words s ≡ take n (drop k s) ∷ words (drop n (drop k s))
unfolding words
words_cut s k n e f some =
    let a = e ∙ lead_len is_blank s in
    let b = f ∙ len_is is_blank (drop k s) in
    let front_some : 0 < front is_blank (drop k s) = omega (arith, b) in
    rw b (full_lead is_blank s ∙ ap (λ (i : ℕ). words (drop i s)) (sym a) ∙ full_front is_blank (drop k s) front_some)

pub words_end : (s : List ℕ) (k : ℕ) → k ≡ length (take_while is_blank s) → 0 ≡ length (take_while (λ b. not (is_blank b)) (drop k s)) → words s ≡ []
unfolding words
words_end s k e f =
    let a = e ∙ lead_len is_blank s in
    let none : front is_blank (drop (lead is_blank s) s) ≡ 0 = rw (← a) (sym (f ∙ len_is is_blank (drop k s))) in
    full_lead is_blank s ∙ ap words (lead_stops is_blank s none)
