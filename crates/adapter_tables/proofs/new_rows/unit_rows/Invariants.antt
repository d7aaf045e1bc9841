use Rattle.std.proofs.Common.{take}
use Rattle.adapter_tables.specs.Ties.{NewUnits}
use Rattle.adapter_tables.proofs.new_rows.unit_rows.Given as goal

abbrev pub invariant-loop-l : goal.invariant-loop-l
invariant-loop-l l = NewUnits l.luns (take l.l-index l.luns) l.units.items
