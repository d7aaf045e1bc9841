use Rattle.std.proofs.Common.{◌∙◌, subst, List}
use Rattle.failure_table.specs.FailuresAgree.{Abort, Says}
use Rattle.failure_table.proofs.Entries.{taken_first, says_tried}
use Rattle.failure_table.proofs.failures.Failures.take_abort.Goals as goal

pub returns-clause-tells : goal.returns-clause-tells
returns-clause-tells c = λ s P k n ok run at.
    let old = c.args.self.now in
    let now = c.next.new.self in
    let first = taken_first old.work.waiting now.waiting c.next.result (k, n) c.next.ensures.waiting at in
    record {
      says = says_tried s P old.queue.failed old.queue.busy k n now.waiting (subst (λ (w : List Abort). Says s P old.queue.failed old.queue.busy w) first run.says) ok;
      recovery = run.recovery;
      started = run.started;
      failures_most = run.failures_most;
      aborts_most = c.next.ensures.most ∙ run.aborts_most;
      few = run.few;
    }
