use Rattle.mid_base.specs.declared.answers.Disp.TheVariants.{Success, Retry, Requeue}
use Rattle.mid_core.proofs.judging.settle_by.Goals as goal

pub returns-in-Success-clause-runs : goal.returns-in-Success-clause-runs
returns-in-Success-clause-runs c = λ s P runs. rw c.in-Success.is (c.report.ensures.runs s P Success c.args.a runs)

pub returns-in-Retry-clause-runs : goal.returns-in-Retry-clause-runs
returns-in-Retry-clause-runs c = λ s P runs. rw c.in-Retry.is (c.again.ensures.runs s P Retry runs)

pub returns-in-Requeue-clause-runs : goal.returns-in-Requeue-clause-runs
returns-in-Requeue-clause-runs c = λ s P runs. rw c.in-Requeue.is (c.again-in-Requeue.ensures.runs s P Requeue runs)

pub returns-in-Fail-clause-runs : goal.returns-in-Fail-clause-runs
returns-in-Fail-clause-runs c = λ s P runs. rw c.in-Fail.is (c.fail.ensures.runs s P runs)
