use Rattle.std.proofs.Common.{ℕ, ◌≤◌, sym, subst}
use Rattle.failure_table.proofs.Queries.{counted_once}
use Rattle.failure_table.proofs.laws.each_busy_command_is_counted_once.Goals as goal

pub returns-clause-sum : goal.returns-clause-sum
returns-clause-sum c = λ s P t run. counted_once s P t.queue.failed t.queue.busy t.work.waiting run.says

pub returns-clause-most : goal.returns-clause-most
returns-clause-most c = λ s P t run. subst (λ (n : ℕ). n ≤ s.can_queue) (sym run.says.busy_are) run.few
