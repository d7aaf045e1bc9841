use Rattle.std.proofs.Common.{◌≡◌, ◌++◌, map, take, drop}
use Rattle.adapter_tables.specs.Ties.{counted_row}
use Rattle.adapter_tables.proofs.counts.count.Given as goal

abbrev pub invariant-loop-r : goal.invariant-loop-r
invariant-loop-r l = l.r-items ≡ map (counted_row l.scope l.class) (take l.r-index l.fn.rows.items) ++ drop l.r-index l.fn.rows.items
