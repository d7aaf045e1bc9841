-- What contracts see of the running timers.
use Rattle.std.specs.Prelude.{ℕ, ◌≡◌, ◌<◌, ◌≤◌, ◌==◌, ◌&&◌, ◌||◌, Bool, if◌then◌else◌, nat_lt, nat_le, List, [], ◌∷◌, Option, None, Some, IsTrue, true}
use Rattle.std.specs.List.{All, Contains}
use Rattle.mid_base.specs.declared.names.Attempt.{Attempt}
use Rattle.mid_base.specs.declared.names.Tick.{Tick}

-- an attempt and its deadline
abbrev pub Timer : Type 0
Timer = Attempt × Tick

-- the timers, whose order doesn't count, and how many there may be
pub record Timers : Type 0 where
  pub timers : List Timer
  pub most : ℕ

-- the deadline of an attempt, None where it has no timer
abbrev pub deadline_of : ℕ → List Timer → Option ℕ
deadline_of n [] = None
deadline_of n (t ∷ ts) = if t.0.0 == n then Some t.1.0 else deadline_of n ts

-- no attempt has two timers
abbrev pub Differ : List Timer → Type 0
Differ [] = Unit {0}
Differ (t ∷ ts) = (deadline_of t.0.0 ts ≡ None) × Differ ts

-- the attempt's deadline is this one afterwards, and every other attempt's is what it was
abbrev pub Becomes : ℕ → Option ℕ → List Timer → List Timer → Type 0
Becomes n deadline before after =
    (m : ℕ) → deadline_of m after ≡ (if m == n then deadline else deadline_of m before)

-- attempt n with its deadline comes no later than attempt m with its own: the earlier deadline first, the smaller number
-- first among equal ones
abbrev pub is_before : (n deadline m other : ℕ) → Bool
is_before n deadline m other = nat_lt deadline other || ((deadline == other) && nat_le n m)

-- the first attempt whose deadline isn't after `now`, None where each deadline is after it
abbrev pub IsFirstDue : List Timer → ℕ → Option Attempt → Type 0
IsFirstDue ts now None = (m other : ℕ) → deadline_of m ts ≡ Some other → now < other
IsFirstDue ts now (Some n) =
    (deadline : ℕ) × (deadline_of n.0 ts ≡ Some deadline) × (deadline ≤ now)
    × ((m other : ℕ) → deadline_of m ts ≡ Some other → IsTrue (is_before n.0 deadline m other))

-- the same of the timers in a list, for a search that goes along it
abbrev pub IsFirstOf : List Timer → ℕ → Option Timer → Type 0
IsFirstOf ts now None = All (λ t. now < t.1.0) ts
IsFirstOf ts now (Some x) =
    Contains ts x × (x.1.0 ≤ now) × All (λ t. is_before x.0.0 x.1.0 t.0.0 t.1.0 ≡ true) ts
