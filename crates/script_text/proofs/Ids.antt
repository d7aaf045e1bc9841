-- The ids of the commands so far, in ascending order, and one more.
use Rattle.std.proofs.Common.{◌≡◌, ℕ, suc, true, false, List, [], ◌∷◌, length, refl, ap, arith, inl, inr, eq-eqb}
use Rattle.std.specs.Prelude.{◌==◌, nat_lt}
use Rattle.std.specs.Ordering.{nat_cmp}
use Rattle.std.specs.BTreeSet.{insert_key}
use Rattle.std.proofs.lemmas.Bool.{cases_Bool}
use Rattle.std.proofs.lemmas.Bool.Decides.{nat_tests}
use Rattle.script_text.specs.Said.{is_id}
use Rattle.script_text.proofs.Grown.{or_left, or_right}

eq_other : (a b : ℕ) → (a == b) ≡ true → (b == a) ≡ true
eq_other a b e = grind (arith, nat_tests)

-- what was known stays known
pub kept_id : (ids : List ℕ) (i j : ℕ) → is_id ids j ≡ true → is_id (insert_key nat_cmp ids i) j ≡ true
kept_id [] i j e = absurd (cc)
kept_id (x ∷ xs) i j e =
    elim (cases_Bool (nat_lt i x)) [
      | inl t ↦ rw t (or_right (i == j) (is_id (x ∷ xs) j) e)
      | inr f ↦
          elim (cases_Bool (i == x)) [
            | inl s ↦ rw (f, s) e
            | inr g ↦
                rw (f, g)
                (elim (cases_Bool (x == j)) [
                  | inl here ↦ or_left (x == j) (is_id (insert_key nat_cmp xs i) j) here
                  | inr there ↦ or_right (x == j) (is_id (insert_key nat_cmp xs i) j) (kept_id xs i j (rw there at e))
                ])
          ]
    ]

pub own_id : (ids : List ℕ) (i : ℕ) → is_id (insert_key nat_cmp ids i) i ≡ true
own_id [] i = or_left (i == i) false (eq-eqb i i refl)
own_id (x ∷ xs) i =
    elim (cases_Bool (nat_lt i x)) [
      | inl t ↦ rw t (or_left (i == i) (is_id (x ∷ xs) i) (eq-eqb i i refl))
      | inr f ↦
          elim (cases_Bool (i == x)) [
            | inl s ↦ rw (f, s) (or_left (x == i) (is_id xs i) (eq_other i x s))
            | inr g ↦ rw (f, g) (or_right (x == i) (is_id (insert_key nat_cmp xs i) i) (own_id xs i))
          ]
    ]

pub one_more_id : (ids : List ℕ) (i : ℕ) → is_id ids i ≡ false → length (insert_key nat_cmp ids i) ≡ suc (length ids)
one_more_id [] i new = refl
one_more_id (x ∷ xs) i new =
    elim (cases_Bool (nat_lt i x)) [
      | inl t ↦ rw t refl
      | inr f ↦
          elim (cases_Bool (i == x)) [
            | inl s ↦ absurd (let h = rw (eq_other i x s) at new in cc h)
            | inr g ↦ rw (f, g) (ap suc (one_more_id xs i (elim (cases_Bool (x == i)) [ inl h ↦ absurd (let k = rw h at new in cc k) | inr h ↦ rw h at new ])))
          ]
    ]
