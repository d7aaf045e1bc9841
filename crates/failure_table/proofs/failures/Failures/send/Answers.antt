use Rattle.std.proofs.Common.{◌+◌, ◌∙◌, ◌∷◌, refl, arith}
use Rattle.mid_base.specs.declared.entries.Entry.TheVariants as entry
use Rattle.failure_table.proofs.Entries.{moved, says_sent}
use Rattle.failure_table.proofs.failures.Failures.send.Goals as goal

pub returns-clause-tells : goal.returns-clause-tells
returns-clause-tells c = λ s P k n t run known idle fresh.
    let old = c.args.self.now in
    let now = c.sent.new.self in
    record {
      says = moved s (entry.Sent k n t ∷ P) old.queue.failed now.failed (old.queue.busy + 1) now.busy old.work.waiting old.work.waiting
          (says_sent s P old.queue.failed old.queue.busy old.work.waiting run.says k n t idle known fresh) c.sent.ensures.failed c.sent.ensures.busy refl;
      recovery = run.recovery;
      started = run.started;
      failures_most = c.sent.ensures.most ∙ run.failures_most;
      aborts_most = run.aborts_most;
      few = omega (arith, c.requires, c.sent.ensures.busy, run.failures_most);
    }
