use Rattle.attempt_table.proofs.Moves.{says_again}
use Rattle.attempt_table.proofs.laws.a_settled_attempt_may_be_settled_again.Goals as goal

pub returns : goal.returns
returns c = λ s P t n e of settled tells. (says_again s P t.rows.items t.tags.items t.kept.items t.claims.items t.lates.items tells.0 n e of settled, tells.1, tells.2, tells.3)
