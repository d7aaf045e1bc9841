-- Values by their numbers.
use Rattle.std.specs.Prelude.{ℕ, Option, slice_get, unwrap_or}
use Rattle.std.specs.Ordering.{nat_cmp}
use Rattle.std.specs.BTreeMap.{get}
use Rattle.report_text.specs.declared.numbered.Numbered.{Numbered}

-- the value of a number: of a small one in its place, of another one in the tree
abbrev pub at : {V : Type 0} → Numbered V → ℕ → Option V
at t n = unwrap_or (slice_get t.low.items n) (get nat_cmp t.rest n)
