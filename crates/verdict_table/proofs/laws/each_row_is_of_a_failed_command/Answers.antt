use Rattle.std.proofs.Common.{List, subst, sym}
use Rattle.std.specs.List.{All}
use Rattle.trace_model.specs.Recovery.{failed}
use Rattle.verdict_table.specs.declared.verdicts.FailedRow.{FailedRow}
use Rattle.verdict_table.specs.VerdictsAgree.{IsKept}
use Rattle.verdict_table.proofs.Rows.{rows_kept}
use Rattle.verdict_table.proofs.laws.each_row_is_of_a_failed_command.Goals as goal

pub returns : goal.returns
returns c = λ s P t run. subst (λ (rows : List FailedRow). All (IsKept P) rows) (sym run.rows) (rows_kept P (failed P) run.shut)
