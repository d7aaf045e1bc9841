use Rattle.std.proofs.Common.{rules, ◌≤◌, ◌∙◌, ◌==◌, ap, sym, subst, not, ℕ, List}
use Rattle.std.proofs.lemmas.Fn.{filter_same}
use Rattle.std.proofs.lemmas.List.Elements.{All-filter}
use Rattle.trace_model.specs.Recovery.{Failure, failed}
use Rattle.verdict_table.specs.declared.verdicts.FailedRow.{FailedRow}
use Rattle.verdict_table.specs.VerdictsAgree.{IsShut, without}
use Rattle.verdict_table.proofs.Rows.{rows_without}
use Rattle.verdict_table.proofs.verdicts.Verdicts.leave.Goals as goal

pub returns-clause-rows : goal.returns-clause-rows
returns-clause-rows c = filter_same _ (λ (r : FailedRow). not (r.command.0 == c.args.c.0)) _ (λ x b f' k. search rules) _ _ c.retain.ensures.filtered

pub returns-clause-again : goal.returns-clause-again
returns-clause-again c = λ s P counted run. record {
  rows = returns-clause-rows c ∙ (ap (λ (rows : List FailedRow). without c.args.c rows) run.rows ∙ rows_without P c.args.c (failed P));
  shut = All-filter (λ (f : Failure). not (f.cmd.0 == c.args.c.0)) (IsShut P) (failed P) run.shut;
  most = subst (λ (n : ℕ). s.can_queue ≤ n) (sym c.retain.ensures.capacity) run.most;
}

pub returns-clause-told : goal.returns-clause-told
returns-clause-told c = λ s P a run. record {
  rows = returns-clause-rows c ∙ (ap (λ (rows : List FailedRow). without c.args.c rows) run.rows ∙ rows_without P c.args.c (failed P));
  shut = All-filter (λ (f : Failure). not (f.cmd.0 == c.args.c.0)) (IsShut P) (failed P) run.shut;
  most = subst (λ (n : ℕ). s.can_queue ≤ n) (sym c.retain.ensures.capacity) run.most;
}
