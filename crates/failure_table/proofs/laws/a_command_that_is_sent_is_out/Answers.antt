use Rattle.failure_table.proofs.Entries.{sent_is_out}
use Rattle.failure_table.proofs.laws.a_command_that_is_sent_is_out.Goals as goal

pub returns : goal.returns
returns c = λ s P t k n u idle run. sent_is_out s P t.queue.failed t.queue.busy t.work.waiting run.says k idle n u
