use Rattle.std.proofs.Common.{◌∙◌}
use Rattle.failure_table.proofs.Queries.{is_on_list}
use Rattle.failure_table.proofs.failures.Failures.is_failed.Goals as goal

pub returns : goal.returns
returns c = λ s P run.
    let now = c.args.self.now in
    is_on_list s P now.queue.failed now.queue.busy now.work.waiting run.says c.args.c ∙ c.has.ensures
