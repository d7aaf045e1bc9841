use Rattle.failure_table.proofs.Queries.{failed_is_calm}
use Rattle.failure_table.proofs.laws.no_failed_command_waits_for_an_abort.Goals as goal

pub returns : goal.returns
returns c = λ s P t k is run. failed_is_calm s P t.queue.failed t.queue.busy t.work.waiting run.says k.0 is
