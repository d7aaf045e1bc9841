use Rattle.failure_table.proofs.Entries.{says_took, says_told_idle}
use Rattle.failure_table.proofs.laws.a_command_that_is_not_busy_changes_no_failure.Goals as goal

pub returns-clause-taken : goal.returns-clause-taken
returns-clause-taken c = λ s P t k idle run. record {
  says = says_took s P t.queue.failed t.queue.busy t.work.waiting run.says k idle;
  recovery = run.recovery;
  started = run.started;
  failures_most = run.failures_most;
  aborts_most = run.aborts_most;
  few = run.few;
}

pub returns-clause-told : goal.returns-clause-told
returns-clause-told c = λ s P t k a idle run. record {
  says = says_told_idle s P t.queue.failed t.queue.busy t.work.waiting run.says k a idle;
  recovery = run.recovery;
  started = run.started;
  failures_most = run.failures_most;
  aborts_most = run.aborts_most;
  few = run.few;
}
