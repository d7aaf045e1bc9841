use Rattle.std.proofs.Common.{List, subst}
use Rattle.failure_table.specs.FailuresAgree.{Abort, Says}
use Rattle.failure_table.proofs.Entries.{first_and_rest, tried_is_out}
use Rattle.failure_table.proofs.laws.a_command_whose_abort_was_tried_is_out.Goals as goal

pub returns : goal.returns
returns c = λ s P t k n ok at run.
    let first = first_and_rest t.work.waiting (k, n) at in
    tried_is_out s P t.queue.failed t.queue.busy k n first.0 (subst (λ (w : List Abort). Says s P t.queue.failed t.queue.busy w) first.1 run.says) ok
