use Rattle.std.proofs.Common.{◌≡◌, ◌++◌, map, take, drop}
use Rattle.verdict_table.specs.VerdictsAgree.{sensed}
use Rattle.verdict_table.proofs.verdicts.sense_each.Given as goal

abbrev pub invariant-loop-row : goal.invariant-loop-row
invariant-loop-row l = l.row-items ≡ map (sensed l.n l.sense) (take l.row-index l.fn.rows.items) ++ drop l.row-index l.fn.rows.items
