use Rattle.std.proofs.Common.{◌∙◌, ◌∷◌, ◌++◌, [], sym, subst, refl, ℕ, ◌≤◌}
use Rattle.mid_base.specs.declared.entries.Entry.TheVariants as entry
use Rattle.failure_table.proofs.Entries.{moved, says_failed}
use Rattle.failure_table.proofs.failures.Failures.fail.Goals as goal

pub returns-clause-tells : goal.returns-clause-tells
returns-clause-tells c = λ s P run known out.
    let old = c.args.self.now in
    let now = c.add.new.self in
    record {
      says = moved s (entry.Failed c.args.c c.args.n c.args.cancelled ∷ P) (old.queue.failed ++ (c.args.c, c.args.n, c.args.cancelled) ∷ []) now.failed old.queue.busy now.busy old.work.waiting old.work.waiting
          (says_failed s P old.queue.failed old.queue.busy old.work.waiting run.says c.args.c c.args.n known out c.args.cancelled) c.add.ensures.failed c.add.ensures.busy refl;
      recovery = refl;
      started = run.started;
      failures_most = c.add.ensures.most ∙ run.failures_most;
      aborts_most = run.aborts_most;
      few = subst (λ (n : ℕ). n ≤ s.can_queue) (sym c.add.ensures.busy) run.few;
    }
