-- The two orders in which a list keeps its timers.
use Rattle.std.specs.Prelude.{ℕ, ◌≡◌, ◌<◌, ◌≤◌, ◌==◌, ◌&&◌, ◌||◌, Bool, true, false, nat_lt, List, length, slice_index_or}
use Rattle.timer_list.specs.Timers.{Timer, deadline_of, Differ}

-- the order of numbers
abbrev pub is_lower : Timer → Timer → Bool
is_lower x y = nat_lt x.0.0 y.0.0

-- the order of deadlines, and of numbers among equal ones
abbrev pub is_earlier : Timer → Timer → Bool
is_earlier x y = nat_lt x.1.0 y.1.0 || ((x.1.0 == y.1.0) && nat_lt x.0.0 y.0.0)

-- each timer precedes those after it, and no attempt has two
pub record IsRow (precedes : Timer → Timer → Bool) (ts : List Timer) : Type 0 where
  pub ordered : (i j : ℕ) (d : Timer) → i < j → j < length ts → precedes (slice_index_or ts i d) (slice_index_or ts j d) ≡ true
  pub differ : Differ ts

-- the place of a timer in a row: the timers below it precede the timer, and the others don't
pub record IsPlace (precedes : Timer → Timer → Bool) (x : Timer) (ts : List Timer) (place : ℕ) : Type 0 where
  pub within : place ≤ length ts
  pub below : (k : ℕ) (d : Timer) → k < place → precedes (slice_index_or ts k d) x ≡ true
  pub others : (k : ℕ) (d : Timer) → place ≤ k → k < length ts → precedes (slice_index_or ts k d) x ≡ false

-- the attempt's timer stands at the place
pub record IsAt (n : ℕ) (ts : List Timer) (place : ℕ) : Type 0 where
  pub within : place < length ts
  pub number : (d : Timer) → (slice_index_or ts place d).0.0 ≡ n

-- two rows, one by number and one by deadline, of the same timers
pub record AreKept (numbers deadlines : List Timer) : Type 0 where
  pub by_number : IsRow is_lower numbers
  pub by_deadline : IsRow is_earlier deadlines
  pub count : length numbers ≡ length deadlines
  pub each : (m : ℕ) → deadline_of m numbers ≡ deadline_of m deadlines
