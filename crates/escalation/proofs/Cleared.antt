-- What entries leave of a list, taken one by one, and the ids that they clear.
use Rattle.std.proofs.Common.{◌≡◌, ◌≤◌, ◌<◌, ℕ, suc, zero, ◌+◌, ◌==◌, Bool, true, false, cond, not, ◌||◌, List, [], ◌∷◌, ◌++◌, length, map, filter, take, get_or, refl, sym, ap, ◌∙◌, subst, ⊎_elim, Option, Result, Ok, Err, eq-eqb, arith}
use Rattle.std.specs.List.{list_any}
use Rattle.std.specs.List.Sorted.{IsPermutation, IsNonDecreasing, IsBinarySearchResult}
use Rattle.std.specs.Ordering.{nat_cmp}
use Rattle.std.proofs.Math.Bool.{or-false}
use Rattle.std.proofs.lemmas.Bool.{cases_Bool, cases_order, eqb-true}
use Rattle.std.proofs.lemmas.List.{take_more}
use Rattle.std.proofs.lemmas.List.Folds.{list_any_at, list_any_more, list_any-append}
use Rattle.std.proofs.lemmas.List.Sorted.{searched, list_any-IsPermutation}
use Rattle.mid_base.specs.declared.answers.Answer.{Answer}
use Rattle.mid_base.specs.declared.entries.Entry.{Entry}
use Rattle.disposition.specs.declared.todo.Todo.{Todo}
use Rattle.escalation.specs.Climbing.{clears, is_left, sensed, sensed_by, as_told}
use Rattle.escalation.specs.Acts.{is_id, AreCleared}

-- sense that was fetched

pub sensed_both : (n : ℕ) (es fs : List Entry) (a : Option Answer) → sensed n (es ++ fs) a ≡ sensed n fs (sensed n es a)
sensed_both n [] fs a = refl
sensed_both n (e ∷ es) fs a = sensed_both n es fs (sensed_by n e a)

pub told_both : (es fs : List Entry) (x : Todo) → as_told fs (as_told es x) ≡ as_told (es ++ fs) x
told_both es fs x =
    let with : Option Answer → Todo = λ a. record { cmd = x.cmd; n = x.n; dev = x.dev; cancelled = x.cancelled; answer = a; cx = x.cx } in
    ap with (sym (sensed_both x.n.0 es fs x.answer))

map_told : (es fs : List Entry) (xs : List Todo) → map (as_told fs) (map (as_told es) xs) ≡ map (as_told (es ++ fs)) xs
map_told es fs [] = refl
map_told es fs (x ∷ xs) =
    ap (λ (y : Todo). y ∷ map (as_told fs) (map (as_told es) xs)) (told_both es fs x) ∙ ap (λ (ys : List Todo). as_told (es ++ fs) x ∷ ys) (map_told es fs xs)

pub told_none : (xs : List Todo) → map (as_told []) xs ≡ xs
told_none [] = refl
told_none (x ∷ xs) = ap (λ (ys : List Todo). x ∷ ys) (told_none xs)

pub no_sense : (e : Entry) → ((n : ℕ) (a : Option Answer) → sensed_by n e a ≡ a) → (xs : List Todo) → xs ≡ map (as_told (e ∷ [])) xs
no_sense e h [] = refl
no_sense e h (x ∷ xs) =
    let with : Option Answer → Todo = λ a. record { cmd = x.cmd; n = x.n; dev = x.dev; cancelled = x.cancelled; answer = a; cx = x.cx } in
    ap (λ (y : Todo). y ∷ xs) (sym (ap with (h x.n.0 x.answer))) ∙ ap (λ (ys : List Todo). as_told (e ∷ []) x ∷ ys) (no_sense e h xs)

-- a loop's step
pub told_more : (es : List Entry) (i : ℕ) (e : Entry) (xs ys zs : List Todo) → i < length es → e ≡ get_or es i e → ys ≡ map (as_told (take i es)) xs → zs ≡ map (as_told (e ∷ [])) ys
    → zs ≡ map (as_told (take (i + 1) es)) xs
told_more es i e xs ys zs lt is y z =
    let whole : take i es ++ e ∷ [] ≡ take (i + 1) es = ap (λ (x : Entry). take i es ++ x ∷ []) is ∙ sym (take_more es i e lt) in
    z ∙ (ap (map (as_told (e ∷ []))) y ∙ (map_told (take i es) (e ∷ []) xs ∙ ap (λ (fs : List Entry). map (as_told fs) xs) whole))

-- the ids that are cleared

pub one_more : (c d : ℕ) (ids : List ℕ) → list_any (is_id c) (ids ++ d ∷ []) ≡ (list_any (is_id c) ids || (d == c))
one_more c d ids = list_any-append (is_id c) ids (d ∷ []) ∙ ap (λ (b : Bool). list_any (is_id c) ids || b) (or-false (d == c))

pub ids_more : (es : List Entry) (i : ℕ) (e : Entry) (ids more : List ℕ) → i < length es → ((c : ℕ) → list_any (is_id c) ids ≡ list_any (clears c) (take i es))
    → ((c : ℕ) → list_any (is_id c) more ≡ (list_any (is_id c) ids || clears c (get_or es i e))) → (c : ℕ) → list_any (is_id c) more ≡ list_any (clears c) (take (i + 1) es)
ids_more es i e ids more lt before now c =
    now c ∙ (ap (λ (b : Bool). b || clears c (get_or es i e)) (before c) ∙ sym (list_any_more (clears c) es i e lt))

pub are_cleared : (es : List Entry) (xs ys : List ℕ) → ((c : ℕ) → list_any (is_id c) xs ≡ list_any (clears c) es) → IsPermutation xs ys → IsNonDecreasing ys → AreCleared es ys
are_cleared es xs ys h p rise = record { rise = rise; are = λ c. sym (list_any-IsPermutation (is_id c) xs ys p) ∙ h c }

-- what a search among them finds

none_is : (c : ℕ) (xs : List ℕ) → ((k : ℕ) → k < length xs → get_or xs k 0 ≡ c → ⊥) → list_any (is_id c) xs ≡ false
none_is c [] h = refl
none_is c (x ∷ xs) h = ⊎_elim
    (λ yes. absurd (h 0 (omega arith) (eqb-true x c yes)))
    (λ no. rw no (none_is c xs (λ k lt. h (suc k) (omega (arith, lt)))))
    (cases_Bool (x == c))

pub found_is : (xs : List ℕ) (c i : ℕ) (r : Result ℕ ℕ) → r ≡ Ok i → IsBinarySearchResult (λ y. nat_cmp y c) xs r → IsNonDecreasing xs → list_any (is_id c) xs ≡ true
found_is xs c i r r_is h up =
    let at = searched xs c (Ok i) (subst (IsBinarySearchResult (λ y. nat_cmp y c) xs) r_is h) (λ j k le lt. up j k 0 le lt) in
    list_any_at (is_id c) xs i 0 at.0 (eq-eqb (get_or xs i 0) c at.1)

pub absent_is : (xs : List ℕ) (c i : ℕ) (r : Result ℕ ℕ) → r ≡ Err i → IsBinarySearchResult (λ y. nat_cmp y c) xs r → IsNonDecreasing xs → list_any (is_id c) xs ≡ false
absent_is xs c i r r_is h up =
    let at = searched xs c (Err i) (subst (IsBinarySearchResult (λ y. nat_cmp y c) xs) r_is h) (λ j k le lt. up j k 0 le lt) in
    none_is c xs (λ k lt is. ⊎_elim
    (λ same. absurd (omega (arith, at.2 k (omega (arith, same)) lt, is)))
    (λ other. ⊎_elim (λ low. absurd (omega (arith, at.1 k low, is))) (λ high. absurd (omega (arith, at.2 k (omega (arith, high)) lt, is))) other)
    (cases_order k i))

pub same_left : (entries : List Entry) (ids : List ℕ) → AreCleared entries ids → (xs : List Todo) → filter (λ x. not (list_any (is_id x.cmd.0) ids)) xs ≡ filter (is_left entries) xs
same_left entries ids h [] = refl
same_left entries ids h (x ∷ xs) =
    let f : Todo → Bool = λ y. not (list_any (is_id y.cmd.0) ids) in
    ap (λ (b : Bool). cond (not b) (x ∷ filter f xs) (filter f xs)) (h.are x.cmd.0) ∙ ap (λ (ys : List Todo). cond (is_left entries x) (x ∷ ys) ys) (same_left entries ids h xs)
