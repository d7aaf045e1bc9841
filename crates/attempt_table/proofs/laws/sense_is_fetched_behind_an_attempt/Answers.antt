use Rattle.attempt_table.proofs.Moves.{says_sensed}
use Rattle.attempt_table.proofs.laws.sense_is_fetched_behind_an_attempt.Goals as goal

pub returns : goal.returns
returns c = λ s P t k n x dead tells. (says_sensed s P t.rows.items t.tags.items t.kept.items t.claims.items t.lates.items tells.0 k n x dead, tells.1, tells.2, tells.3)
