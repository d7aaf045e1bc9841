use Rattle.std.proofs.Common.{◌∙◌, ap, false, arith}
use Rattle.failure_table.specs.FailuresAgree.{once_if}
use Rattle.failure_table.proofs.Lists.{queued_is}
use Rattle.failure_table.proofs.Entries.{out_parts}
use Rattle.failure_table.proofs.Queries.{out_leaves_room}
use Rattle.failure_table.proofs.laws.a_command_that_is_out_has_room.Goals as goal

pub returns : goal.returns
returns c = λ s P t k known out run.
    let room = out_leaves_room s P t.queue.failed t.queue.busy t.work.waiting run.says k.0 known out in
    let parts = out_parts k.0 P out in
    (omega (arith, room, run.few, run.aborts_most), (queued_is k t.queue.failed false (run.says.listed k.0 ∙ ap once_if parts.1), omega (arith, room)))
