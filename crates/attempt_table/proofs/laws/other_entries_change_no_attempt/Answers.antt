use Rattle.attempt_table.proofs.Moves.{says_apart}
use Rattle.attempt_table.proofs.laws.other_entries_change_no_attempt.Goals as goal

pub returns : goal.returns
returns c = λ s P t e apart tells. (says_apart s P t.rows.items t.tags.items t.kept.items t.claims.items t.lates.items tells.0 e apart, tells.1, tells.2, tells.3)
