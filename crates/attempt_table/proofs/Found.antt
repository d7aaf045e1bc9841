-- The row that a look found.
use Rattle.std.proofs.Common.{◌≡◌, true, false, Option, Some, None, refl, inl, inr}
use Rattle.std.proofs.lemmas.Bool.{cases_Bool}
use Rattle.attempt_table.specs.declared.rows.Row.{Row}
use Rattle.attempt_table.specs.Rows.{wanting_in, wanting_row}

pub wanting_is : (x : Option Row) (r : Row) → wanting_row x ≡ Some r → (x ≡ Some r) × (wanting_in x ≡ true)
wanting_is x r h = elim (cases_Bool (wanting_in x)) [
  | inl is ↦ (rw is at h, is)
  | inr isnt ↦ let none : ◌≡◌ {A = Option Row} None (Some r) = rw isnt at h in cc
]

pub wanting_none : (x : Option Row) → wanting_row x ≡ None → wanting_in x ≡ false
wanting_none x h = elim (cases_Bool (wanting_in x)) [
  | inl is ↦ absent x (rw is at h)
  | inr isnt ↦ isnt
]
  where
    absent : (x : Option Row) → x ≡ None → wanting_in x ≡ false
    absent None e = refl
    absent (Some r) e = cc
