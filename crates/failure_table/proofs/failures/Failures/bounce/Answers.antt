use Rattle.std.proofs.Common.{◌∙◌, ◌∷◌, sym, ap, refl, arith}
use Rattle.mid_base.specs.declared.entries.Entry.TheVariants as entry
use Rattle.eh_queue.specs.Failures.{without}
use Rattle.abort_work.specs.Scheduled.{Scheduled}
use Rattle.failure_table.proofs.Entries.{moved, says_bounced}
use Rattle.failure_table.proofs.failures.Failures.bounce.Goals as goal

pub returns-clause-tells : goal.returns-clause-tells
returns-clause-tells c = λ s P n why run known out.
    let old = c.args.self.now in
    let now = c.leave.new.self in
    let left = c.leave.ensures in
    record {
      says = moved s (entry.Bounced c.args.c n why ∷ P) (without c.args.c old.queue.failed) now.queue.failed now.queue.busy now.queue.busy old.work.waiting now.work.waiting
          (says_bounced s P old.queue.failed old.queue.busy old.work.waiting run.says c.args.c now.queue.busy left.busy known n why out)
          left.failed.0 refl (ap (λ (w : Scheduled). w.waiting) left.rest.0);
      recovery = run.recovery ∙ sym left.rest.1;
      started = run.started ∙ sym left.rest.2;
      failures_most = left.failed.1 ∙ run.failures_most;
      aborts_most = ap (λ (w : Scheduled). w.most) left.rest.0 ∙ run.aborts_most;
      few = omega (arith, left.busy, run.few);
    }
