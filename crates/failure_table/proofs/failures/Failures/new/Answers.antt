use Rattle.std.proofs.Common.{◌∙◌, [], sym, refl, arith}
use Rattle.failure_table.proofs.Entries.{moved}
use Rattle.failure_table.proofs.Queries.{says_nothing}
use Rattle.failure_table.proofs.failures.Failures.new.Goals as goal

pub returns-clause-tells : goal.returns-clause-tells
returns-clause-tells c = λ s ids most. record {
  says = moved s [] [] c.in_ok-queue.queue.failed 0 c.in_ok-queue.queue.busy [] c.in_ok-work.work.waiting (says_nothing s ids)
      c.in_ok-queue.ensures.failed c.in_ok-queue.ensures.busy c.in_ok-work.ensures.empty;
  recovery = refl;
  started = refl;
  failures_most = c.in_ok-queue.ensures.most ∙ sym most;
  aborts_most = c.in_ok-work.ensures.most ∙ sym most;
  few = omega (arith, c.in_ok-queue.ensures.busy);
}
