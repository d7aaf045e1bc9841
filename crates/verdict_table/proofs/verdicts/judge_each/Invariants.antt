use Rattle.std.proofs.Common.{◌≡◌, ◌++◌, map, take, drop}
use Rattle.verdict_table.specs.VerdictsAgree.{judged}
use Rattle.verdict_table.proofs.verdicts.judge_each.Given as goal

abbrev pub invariant-loop-row : goal.invariant-loop-row
invariant-loop-row l = l.row-items ≡ map (judged l.n l.d) (take l.row-index l.fn.rows.items) ++ drop l.row-index l.fn.rows.items
