use Rattle.failure_table.proofs.Queries.{first_tells}
use Rattle.failure_table.proofs.failures.Failures.first_abort.Goals as goal

pub returns-clause-tells : goal.returns-clause-tells
returns-clause-tells c = λ s P run.
    let now = c.args.self.now in
    first_tells s P now.queue.failed now.queue.busy now.work.waiting run.says c.first.result c.first.ensures
