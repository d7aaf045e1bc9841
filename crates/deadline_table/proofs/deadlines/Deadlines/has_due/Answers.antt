use Rattle.std.proofs.Common.{rules, ◌≡◌, sym, ◌∙◌}
use Rattle.std.specs.Prelude.{is_some}
use Rattle.deadline_table.proofs.Queries.{some_expired}
use Rattle.deadline_table.proofs.deadlines.Deadlines.has_due.Goals as goal

pub returns : goal.returns
returns c = λ s P run clock.
    let some : c.is_some.result ≡ is_some c.due.result = search rules in
    some_expired s P c.args.self.now.timers.timers run c.args.now.0 clock c.due.result c.due.ensures.first ∙ sym some
