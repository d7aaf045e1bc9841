use Rattle.deadline_table.proofs.Queries.{asks}
use Rattle.deadline_table.proofs.deadlines.Deadlines.due.Goals as goal

pub returns-clause-asks : goal.returns-clause-asks
returns-clause-asks c = λ s P run clock. asks s P c.args.self.now.timers.timers run c.args.now.0 clock c.due.result c.due.ensures
