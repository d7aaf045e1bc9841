use Rattle.std.proofs.Common.{◌≤◌, ◌∙◌, ◌∷◌, ap, sym, subst, ℕ, List, map}
use Rattle.mid_base.specs.declared.entries.Entry.TheVariants as entry
use Rattle.trace_model.specs.Recovery.{failed}
use Rattle.verdict_table.specs.declared.verdicts.FailedRow.{FailedRow}
use Rattle.verdict_table.specs.VerdictsAgree.{row_of, sensed}
use Rattle.verdict_table.proofs.Rows.{map_after, sensed_row}
use Rattle.verdict_table.proofs.verdicts.Verdicts.sense.Goals as goal

pub returns-clause-tells : goal.returns-clause-tells
returns-clause-tells c = λ s P k run. record {
  rows =
      c.sense_each.ensures.rows
      ∙ (ap (λ (rows : List FailedRow). map (sensed c.args.n c.args.sense) rows) run.rows
      ∙ map_after (sensed c.args.n c.args.sense) (row_of P) (row_of (entry.Sensed k c.args.n c.args.sense ∷ P)) (failed P) (sensed_row P k c.args.n c.args.sense));
  shut = run.shut;
  most = subst (λ (n : ℕ). s.can_queue ≤ n) (sym c.sense_each.ensures.most) run.most;
}
