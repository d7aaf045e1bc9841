-- How many pairs stand up to the last place of one.
use Rattle.std.proofs.Common.{◌≡◌, ℕ, zero, suc, ◌+◌, ◌<◌, ◌≤◌, Bool, true, false, cond, not, ◌&&◌, ◌||◌, List, [], ◌∷◌, ◌++◌, map, take, drop, length, get_or, Option, None, Some, find, option_map, refl, sym, ap, ◌∙◌, subst, ⊎_elim, arith, append_assoc}
use Rattle.std.specs.List.{list_any}
use Rattle.std.proofs.lemmas.Bool.{cases_Bool, or_parts}
use Rattle.std.proofs.lemmas.List.{drop_at, drop_more, length-append, length-map, drop_all as drop_past}
use Rattle.disposition.specs.Ladder.{Pair, same_pair, beyond_pair}
use Rattle.escalation.specs.declared.rungs.Rung.{Rung}
use Rattle.escalation.specs.Rungs.{pair_at}

abbrev pub last_from : Pair → ℕ → ℕ → List Pair → ℕ
last_from p i after [] = after
last_from p i after (q ∷ qs) = last_from p (i + 1) (cond (same_pair p q) (i + 1) after) qs

-- from one place on, the pairs before being pre
beyond_last : (p : Pair) (i after : ℕ) (pre ys : List Pair) → length pre ≡ i
    → drop (last_from p i after ys) (pre ++ ys) ≡ cond (list_any (same_pair p) ys) (beyond_pair p ys) (drop after (pre ++ ys))
beyond_last p i after pre [] e = refl
beyond_last p i after pre (q ∷ qs) e =
    let longer : length (pre ++ q ∷ []) ≡ i + 1 = omega (arith, e, length-append pre (q ∷ [])) in
    let next = last_from p (i + 1) (cond (same_pair p q) (i + 1) after) qs in
    ap (λ (xs : List Pair). drop next xs) (sym (append_assoc pre (q ∷ []) qs))
    ∙ (beyond_last p (i + 1) (cond (same_pair p q) (i + 1) after) (pre ++ q ∷ []) qs longer
    ∙ by (same_pair p q) (list_any (same_pair p) qs) longer)
  where
    by : (same later : Bool) → length (pre ++ q ∷ []) ≡ i + 1
        → cond later (beyond_pair p qs) (drop (cond same (i + 1) after) ((pre ++ q ∷ []) ++ qs))
        ≡ cond (same || later) (cond (same && not later) qs (beyond_pair p qs)) (drop after (pre ++ q ∷ qs))
    by true true l = refl
    by false true l = refl
    by true false l = drop_at (pre ++ q ∷ []) qs (i + 1) l
    by false false l = ap (λ (xs : List Pair). drop after xs) (append_assoc pre (q ∷ []) qs)

none_beyond : (p : Pair) (ys : List Pair) → list_any (same_pair p) ys ≡ false → beyond_pair p ys ≡ []
none_beyond p [] h = refl
none_beyond p (q ∷ qs) h =
    let parts = or_parts (same_pair p q) (list_any (same_pair p) qs) h in
    rw parts.0 (none_beyond p qs parts.1)

pub map_drop : {X Y : Type 0} (f : X → Y) (n : ℕ) (xs : List X) → map f (drop n xs) ≡ drop n (map f xs)
map_drop f zero xs = refl
map_drop f (suc n) [] = refl
map_drop f (suc n) (x ∷ xs) = map_drop f n xs

drop_all : (xs : List Pair) → drop (length xs) xs ≡ []
drop_all [] = refl
drop_all (x ∷ xs) = drop_all xs

pub passed_beyond : (p : Pair) (xs : List Pair) (n k : ℕ) → k ≡ length xs → n ≡ last_from p 0 k xs → drop n xs ≡ beyond_pair p xs
passed_beyond p xs n k k_is e =
    ap (λ (m : ℕ). drop m xs) e ∙ (beyond_last p 0 k [] xs refl ∙ ⊎_elim
    (λ yes. rw yes refl)
    (λ no. rw no (ap (λ (m : ℕ). drop m xs) k_is ∙ (drop_all xs ∙ sym (none_beyond p xs no))))
    (cases_Bool (list_any (same_pair p) xs)))

pub passed_more : (p : Pair) (i after : ℕ) (xs : List Pair) (d : Pair) → i < length xs
    → last_from p i after (drop i xs) ≡ last_from p (i + 1) (cond (same_pair p (get_or xs i d)) (i + 1) after) (drop (i + 1) xs)
passed_more p i after xs d lt = ap (λ (ys : List Pair). last_from p i after ys) (drop_more xs i d lt)

-- the first that is found is that of the pairs
pub found_at : (f : Pair → Bool) (rs : List Rung) → find f (map pair_at rs) ≡ option_map pair_at (find (λ r. f (pair_at r)) rs)
found_at f [] = refl
found_at f (r ∷ rs) = ⊎_elim (λ yes. rw yes refl) (λ no. rw no (found_at f rs)) (cases_Bool (f (pair_at r)))

pub end_from : (p : Pair) (i after : ℕ) (xs : List Pair) → length xs ≤ i → last_from p i after (drop i xs) ≡ after
end_from p i after xs le = ap (λ (ys : List Pair). last_from p i after ys) (drop_past i xs le)

read_pair : (rs : List Rung) (i : ℕ) (d : Rung) → get_or (map pair_at rs) i (pair_at d) ≡ pair_at (get_or rs i d)
read_pair [] zero d = refl
read_pair [] (suc i) d = refl
read_pair (r ∷ rs) zero d = refl
read_pair (r ∷ rs) (suc i) d = read_pair rs i d

pub passed_step : (r : Rung) (rs : List Rung) (i after behind k : ℕ) (d : Rung) (same : Bool) → i < length rs → same ≡ same_pair (pair_at r) (pair_at (get_or rs i d)) → behind ≡ cond same (i + 1) after
    → last_from (pair_at r) i after (drop i (map pair_at rs)) ≡ k → last_from (pair_at r) (i + 1) behind (drop (i + 1) (map pair_at rs)) ≡ k
passed_step r rs i after behind k d same lt same_is behind_is h =
    let xs = map pair_at rs in
    let short : i < length xs = omega (arith, lt, length-map rs pair_at) in
    let same_at : same ≡ same_pair (pair_at r) (get_or xs i (pair_at d)) = same_is ∙ ap (same_pair (pair_at r)) (sym (read_pair rs i d)) in
    ap (λ (n : ℕ). last_from (pair_at r) (i + 1) n (drop (i + 1) xs)) (behind_is ∙ ap (λ (b : Bool). cond b (i + 1) after) same_at)
    ∙ (sym (passed_more (pair_at r) i after xs (pair_at d) short) ∙ h)
