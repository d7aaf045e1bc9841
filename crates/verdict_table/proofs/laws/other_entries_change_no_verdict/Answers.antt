use Rattle.verdict_table.proofs.Agree.{verdicts_apart}
use Rattle.verdict_table.proofs.laws.other_entries_change_no_verdict.Goals as goal

pub returns : goal.returns
returns c = λ s P t e apart run. verdicts_apart s P t e apart run
