-- The commands that wait, in one line for each device, by their order of taking.
use Rattle.std.specs.Prelude.{◌≡◌, ◌<◌, ℕ, ◌==◌, Bool, true, false, List, Option, None, Some, slice_get}
use Rattle.std.specs.BinaryHeap.{heap_items}
use Rattle.std.specs.List.{list_any}
use Rattle.command_table.specs.declared.line.Line.{Line}

-- the command that was taken as the j-th is in the line
abbrev pub stands : ℕ → Line → Bool
stands j w = list_any (λ x. x.0 == j) (heap_items w.orders)

abbrev pub in_set : ℕ → Option Line → Bool
in_set j None = false
in_set j (Some w) = stands j w

-- the line of the device at this place has the command that was taken as the j-th
abbrev pub has : List Line → (d j : ℕ) → Bool
has lines d j = in_set j (slice_get lines d)

-- how many commands of the device at this place are busy, by its line
abbrev pub out_in : Option Line → ℕ
out_in None = 0
out_in (Some w) = w.out

abbrev pub out_of : List Line → ℕ → ℕ
out_of lines d = out_in (slice_get lines d)

-- the least of a line
pub record IsLeast (lines : List Line) (d j : ℕ) : Type 0 where
  pub member : has lines d j ≡ true
  pub least : (k : ℕ) → k < j → has lines d k ≡ false
