-- Rows and tags at their places, after a change at one place or one row more.
use Rattle.std.proofs.Common.{◌≡◌, ◌≢◌, ℕ, zero, suc, ◌+◌, ◌-◌, ◌<◌, ◌≤◌, List, [], ◌∷◌, ◌++◌, Option, Some, None, length, refl, ap, ◌∙◌, subst, arith}
use Rattle.std.specs.Prelude.{slice_get, slice_set}
use Rattle.std.proofs.Math.ListN.{length-set}
use Rattle.mid_base.specs.declared.answers.TagState.{TagState}
use Rattle.mid_base.specs.declared.entries.Entry.{Entry}
use Rattle.trace_model.specs.Tags.{tag_state, tags_from}
use Rattle.attempt_table.specs.declared.rows.Row.{Row}
use Rattle.attempt_table.specs.Rows.{row_of, Becomes}

get_past : {A : Type 0} (xs : List A) (k : ℕ) → length xs ≤ k → slice_get xs k ≡ None
get_past [] k le = refl
get_past (x ∷ xs) zero le = absurd (omega (arith, le))
get_past (x ∷ xs) (suc k) le = get_past xs k (omega (arith, le))

get_last : {A : Type 0} (xs : List A) (y : A) (k : ℕ) → k ≡ length xs → slice_get (xs ++ y ∷ []) k ≡ Some y
get_last [] y zero e = refl
get_last [] y (suc k) e = absurd (omega (arith, e))
get_last (x ∷ xs) y zero e = absurd (omega (arith, e))
get_last (x ∷ xs) y (suc k) e = get_last xs y k (omega (arith, e))

get_front : {A : Type 0} (xs : List A) (y : A) (k : ℕ) → k ≢ length xs → slice_get (xs ++ y ∷ []) k ≡ slice_get xs k
get_front [] y zero ne = absurd (ne refl)
get_front [] y (suc k) ne = refl
get_front (x ∷ xs) y zero ne = refl
get_front (x ∷ xs) y (suc k) ne = get_front xs y k (λ e. ne (ap suc e))

pub get_set_same : {A : Type 0} (xs : List A) (k : ℕ) (x y : A) → slice_get xs k ≡ Some y → slice_get (slice_set xs k x) k ≡ Some x
get_set_same [] k x y there = cc
get_set_same (z ∷ zs) zero x y there = refl
get_set_same (z ∷ zs) (suc k) x y there = get_set_same zs k x y there

pub get_set_other : {A : Type 0} (xs : List A) (k j : ℕ) (x : A) → j ≢ k → slice_get (slice_set xs k x) j ≡ slice_get xs j
get_set_other [] k j x ne = refl
get_set_other (z ∷ zs) zero zero x ne = absurd (ne refl)
get_set_other (z ∷ zs) zero (suc j) x ne = refl
get_set_other (z ∷ zs) (suc k) zero x ne = refl
get_set_other (z ∷ zs) (suc k) (suc j) x ne = get_set_other zs k j x (λ e. ne (ap suc e))

pub get_set_within : {A : Type 0} (xs : List A) (k : ℕ) (x : A) → k < length xs → slice_get (slice_set xs k x) k ≡ Some x
get_set_within [] k x lt = absurd (omega (arith, lt))
get_set_within (z ∷ zs) zero x lt = refl
get_set_within (z ∷ zs) (suc k) x lt = get_set_within zs k x (omega (arith, lt))

get_within : {A : Type 0} (xs : List A) (k : ℕ) (y : A) → slice_get xs k ≡ Some y → k < length xs
get_within [] k y there = cc
get_within (x ∷ xs) zero y there = omega arith
get_within (x ∷ xs) (suc k) y there = let rest : k < length xs = get_within xs k y there in omega (arith, rest)

pub row_within : (rows : List Row) (n : ℕ) (r : Row) → row_of n rows ≡ Some r → (0 < n) × (n ≤ length rows)
row_within rows zero r there = cc
row_within rows (suc k) r there = let inside : k < length rows = get_within rows k r there in (omega arith, omega (arith, inside))

-- one row more
pub row_new : (rows : List Row) (n : ℕ) → n ≡ length rows + 1 → row_of n rows ≡ None
row_new rows zero e = refl
row_new rows (suc k) e = get_past rows k (omega (arith, e))

pub row_last : (rows : List Row) (row : Row) (n : ℕ) → n ≡ length rows + 1 → row_of n (rows ++ row ∷ []) ≡ Some row
row_last rows row zero e = absurd (omega (arith, e))
row_last rows row (suc k) e = get_last rows row k (omega (arith, e))

pub row_front : (rows : List Row) (row : Row) (n : ℕ) → n ≢ length rows + 1 → row_of n (rows ++ row ∷ []) ≡ row_of n rows
row_front rows row zero ne = refl
row_front rows row (suc k) ne = get_front rows row k (λ e. ne (omega (arith, e)))

-- another row of one attempt
pub row_here : (n : ℕ) (f : Row → Row) (old new : List Row) (h : Becomes n f old new) → row_of n new ≡ Some (f h.row)
row_here zero f old new h = let there : ◌≡◌ {A = Option Row} None (Some h.row) = h.was in cc
row_here (suc k) f old new h =
    let place : suc k - 1 ≡ k = omega arith in
    let is : new ≡ slice_set old k (f h.row) = h.is ∙ ap (λ (j : ℕ). slice_set old j (f h.row)) place in
    ap (λ (rows : List Row). slice_get rows k) is ∙ get_set_same old k (f h.row) h.row h.was

pub row_other : (n : ℕ) (f : Row → Row) (old new : List Row) → Becomes n f old new → (k : ℕ) → k ≢ n → row_of k new ≡ row_of k old
row_other n f old new h zero ne = refl
row_other zero f old new h (suc j) ne = let there : ◌≡◌ {A = Option Row} None (Some h.row) = h.was in cc
row_other (suc k) f old new h (suc j) ne =
    let place : suc k - 1 ≡ k = omega arith in
    let is : new ≡ slice_set old k (f h.row) = h.is ∙ ap (λ (i : ℕ). slice_set old i (f h.row)) place in
    ap (λ (rows : List Row). slice_get rows j) is ∙ get_set_other old k j (f h.row) (λ e. ne (ap suc e))

pub rows_length : (n : ℕ) (f : Row → Row) (old new : List Row) → Becomes n f old new → length new ≡ length old
rows_length n f old new h = ap length h.is ∙ length-set old (n - 1) (f h.row)

-- the states of tags
pub tags_same : (t q : ℕ) (P P' : List Entry) → ((v : ℕ) → t ≤ v → tag_state P' v ≡ tag_state P v) → tags_from t q P' ≡ tags_from t q P
tags_same t zero P P' h = refl
tags_same t (suc q) P P' h =
    rw (h t (omega arith), tags_same (t + 1) q P P' (λ v le. h v (omega (arith, le)))) refl

pub tags_set : (t q k u : ℕ) (P P' : List Entry) (x : TagState) → u ≡ t + k → ((v : ℕ) → v ≢ u → tag_state P' v ≡ tag_state P v) → tag_state P' u ≡ x
    → tags_from t q P' ≡ slice_set (tags_from t q P) k x
tags_set t zero k u P P' x e others here = refl
tags_set t (suc q) zero u P P' x e others here =
    let first : tag_state P' t ≡ x = subst (λ (v : ℕ). tag_state P' v ≡ x) (omega (arith, e)) here in
    rw (first, tags_same (t + 1) q P P' (λ v le. others v (λ same. absurd (omega (arith, e, le, same))))) refl
tags_set t (suc q) (suc k) u P P' x e others here =
    rw (others t (λ same. absurd (omega (arith, e, same))), tags_set (t + 1) q k u P P' x (omega (arith, e)) others here) refl

pub tags_get : (t q k u : ℕ) (P : List Entry) → u ≡ t + k → k < q → slice_get (tags_from t q P) k ≡ Some (tag_state P u)
tags_get t zero k u P e lt = absurd (omega (arith, lt))
tags_get t (suc q) zero u P e lt = ap (λ (v : ℕ). Some (tag_state P v)) (omega (arith, e))
tags_get t (suc q) (suc k) u P e lt = tags_get (t + 1) q k u P (omega (arith, e)) (omega (arith, lt))

pub tags_within : (t q k : ℕ) (P : List Entry) (x : TagState) → slice_get (tags_from t q P) k ≡ Some x → k < q
tags_within t zero k P x there = cc
tags_within t (suc q) zero P x there = omega arith
tags_within t (suc q) (suc k) P x there = let rest : k < q = tags_within (t + 1) q k P x there in omega (arith, rest)
