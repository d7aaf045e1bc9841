use Rattle.std.proofs.Common.{◌∙◌, ◌∷◌, ◌++◌, [], refl}
use Rattle.mid_base.specs.declared.entries.Entry.TheVariants as entry
use Rattle.failure_table.proofs.Entries.{moved, says_scheduled}
use Rattle.failure_table.proofs.failures.Failures.schedule.Goals as goal

pub returns-clause-tells : goal.returns-clause-tells
returns-clause-tells c = λ s P run known out its.
    let old = c.args.self.now in
    let now = c.put.new.self in
    record {
      says = moved s (entry.AbortSet c.args.c c.args.n ∷ P) old.queue.failed old.queue.failed old.queue.busy old.queue.busy (old.work.waiting ++ (c.args.c, c.args.n) ∷ []) now.waiting
          (says_scheduled s P old.queue.failed old.queue.busy old.work.waiting run.says c.args.c c.args.n known out its) refl refl c.put.ensures.waiting;
      recovery = run.recovery;
      started = run.started;
      failures_most = run.failures_most;
      aborts_most = c.put.ensures.most ∙ run.aborts_most;
      few = run.few;
    }
