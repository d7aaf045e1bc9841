use Rattle.mid_core.proofs.expiring.settle_expired.Goals as goal

pub returns-then-has_abort_left-clause-runs : goal.returns-then-has_abort_left-clause-runs
returns-then-has_abort_left-clause-runs c = λ P runs. c.schedule_abort.ensures.runs c.args.spec.now P runs

pub returns-clause-runs : goal.returns-clause-runs
returns-clause-runs c = λ P runs. c.cancel.ensures.runs c.args.spec.now P runs
