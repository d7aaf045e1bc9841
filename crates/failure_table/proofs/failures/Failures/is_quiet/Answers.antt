use Rattle.std.proofs.Common.{◌∙◌, ◌==◌, sym, ap₂, ℕ}
use Rattle.failure_table.proofs.Queries.{quiet_is}
use Rattle.failure_table.proofs.failures.Failures.is_quiet.Goals as goal

pub returns : goal.returns
returns c = λ s P run.
    let now = c.args.self.now in
    quiet_is s P now.queue.failed now.queue.busy now.work.waiting run.says ∙ ap₂ (λ (m n : ℕ). m == n) (sym c.failed.ensures) (sym c.busy.ensures)
