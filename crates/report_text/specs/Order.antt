-- Ascending order by a number. What has the same number stays in its order.
use Rattle.std.specs.Prelude.{ℕ, nat_le, if◌then◌else◌, List, [], ◌∷◌}

-- x before the first of xs whose number isn't less
abbrev pub placed : {A : Type 0} → (A → ℕ) → A → List A → List A
placed number x [] = x ∷ []
placed number x (y ∷ ys) = if nat_le (number x) (number y) then x ∷ y ∷ ys else y ∷ placed number x ys

abbrev pub ascending : {A : Type 0} → (A → ℕ) → List A → List A
ascending number [] = []
ascending number (x ∷ xs) = placed number x (ascending number xs)
