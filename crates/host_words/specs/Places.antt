-- The places of the journal that turns filled.
use Rattle.std.specs.Prelude.{ℕ, ◌+◌, ◌≤◌, ◌&&◌, nat_lt, nat_le, if◌then◌else◌, List, [], ◌∷◌}
use Rattle.host_words.specs.declared.view.Range.{Range}
use Rattle.host_words.specs.declared.view.View.{View}
use Rattle.host_words.specs.Journals.{In}

-- how many of the ranges have the place p
abbrev pub covers : ℕ → List Range → ℕ
covers p [] = 0
covers p (r ∷ rs) = (if nat_le r.from p && nat_lt p r.to then 1 else 0) + covers p rs

abbrev pub covered_by : ℕ → View → ℕ
covered_by p v = covers p v.mine

-- 1 where the place is below the end, and else 0
abbrev pub below : ℕ → ℕ → ℕ
below p end = if nat_lt p end then 1 else 0

-- no range ends beyond the end
abbrev pub EndBy : ℕ → List Range → Type 0
EndBy end ranges = (r : Range) → In r ranges → (r.from ≤ r.to) × (r.to ≤ end)

-- each place is in at most one of the ranges, and none ends beyond the end
pub record AreApart (ranges : List Range) (end : ℕ) : Type 0 where
  pub once : (p : ℕ) → covers p ranges ≤ 1
  pub within : EndBy end ranges
