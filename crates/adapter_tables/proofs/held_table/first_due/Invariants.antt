use Rattle.adapter_tables.specs.Ties.{IsLeast, IsKeptBelow}
use Rattle.adapter_tables.proofs.held_table.first_due.Given as goal

abbrev pub invariant-loop-key : goal.invariant-loop-key
invariant-loop-key l = IsLeast (IsKeptBelow l.held l.key) l.now l.best
