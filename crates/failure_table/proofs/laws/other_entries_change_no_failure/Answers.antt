use Rattle.failure_table.proofs.Agree.{agrees_apart}
use Rattle.failure_table.proofs.laws.other_entries_change_no_failure.Goals as goal

pub returns : goal.returns
returns c = agrees_apart
