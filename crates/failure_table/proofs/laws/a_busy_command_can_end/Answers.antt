use Rattle.failure_table.proofs.Queries.{unfailed_leaves_room}
use Rattle.failure_table.proofs.laws.a_busy_command_can_end.Goals as goal

pub returns : goal.returns
returns c = λ s P t k known now run unlisted. unfailed_leaves_room s P t.queue.failed t.queue.busy t.work.waiting run.says k known now unlisted
