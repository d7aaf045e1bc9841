use Rattle.std.proofs.Common.{rules, ◌≡◌, not, ap, sym, ◌∙◌}
use Rattle.trace_model.specs.Flush.{is_empty}
use Rattle.attempt_table.proofs.Queries.{late_some}
use Rattle.attempt_table.proofs.attempts.Attempts.has_late.Goals as goal

pub returns : goal.returns
returns c = λ s P tells.
    let none : c.is_empty.result ≡ is_empty c.args.self.now.lates.items = search rules in
    late_some P c.args.self.now.lates.items tells.0.lates_are ∙ ap not (sym none)
