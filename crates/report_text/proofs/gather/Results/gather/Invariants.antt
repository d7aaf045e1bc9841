use Rattle.std.proofs.Common.{take, reverse}
use Rattle.report_text.specs.Tables.{OwnersAre, RowsAre}
use Rattle.report_text.proofs.gather.Results.gather.Given as goal

abbrev pub invariant-loop-place : goal.invariant-loop-place
invariant-loop-place l = record {
  rows : RowsAre l.rows (reverse (take l.place l.entries));
  owners : OwnersAre l.owners (reverse (take l.place l.entries));
}
