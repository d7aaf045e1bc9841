use Rattle.verdict_table.proofs.Agree.{verdicts_sent, verdicts_answered, verdicts_owned, verdicts_judged}
use Rattle.verdict_table.proofs.laws.other_attempts_change_no_verdict.Goals as goal

pub returns-clause-sent : goal.returns-clause-sent
returns-clause-sent c = λ s P t k n u fresh run. verdicts_sent s P t k n u fresh run

pub returns-clause-answered : goal.returns-clause-answered
returns-clause-answered c = λ s P t n a run. verdicts_answered s P t n a run

pub returns-clause-owned : goal.returns-clause-owned
returns-clause-owned c = λ s P t n by opened run. verdicts_owned s P t n by opened run

pub returns-clause-judged : goal.returns-clause-judged
returns-clause-judged c = λ s P t k n d unsettled run. verdicts_judged s P t k n d unsettled run
