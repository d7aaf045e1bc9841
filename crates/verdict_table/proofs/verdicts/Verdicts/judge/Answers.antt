use Rattle.std.proofs.Common.{◌≤◌, ◌∙◌, ◌∷◌, ap, sym, subst, ℕ, List, map}
use Rattle.mid_base.specs.declared.entries.Entry.TheVariants as entry
use Rattle.trace_model.specs.Recovery.{failed}
use Rattle.verdict_table.specs.declared.verdicts.FailedRow.{FailedRow}
use Rattle.verdict_table.specs.VerdictsAgree.{row_of, judged}
use Rattle.verdict_table.proofs.Agree.{shut_still, judged_shut}
use Rattle.verdict_table.proofs.Rows.{map_after, judged_row}
use Rattle.verdict_table.proofs.verdicts.Verdicts.judge.Goals as goal

pub returns-clause-tells : goal.returns-clause-tells
returns-clause-tells c = λ s P k run. record {
  rows =
      c.judge_each.ensures.rows
      ∙ (ap (λ (rows : List FailedRow). map (judged c.args.n c.args.d) rows) run.rows
      ∙ map_after (judged c.args.n c.args.d) (row_of P) (row_of (entry.Judged k c.args.n c.args.d ∷ P)) (failed P) (judged_row P k c.args.n c.args.d));
  shut = shut_still P (entry.Judged k c.args.n c.args.d ∷ P) (failed P) (judged_shut P k c.args.n c.args.d) run.shut;
  most = subst (λ (n : ℕ). s.can_queue ≤ n) (sym c.judge_each.ensures.most) run.most;
}
