use Rattle.attempt_table.proofs.Shown.{held_has_attempt}
use Rattle.attempt_table.proofs.laws.a_held_tag_has_its_attempt.Goals as goal

pub returns : goal.returns
returns c = λ s P t tells. held_has_attempt s P t.rows.items t.tags.items t.kept.items t.claims.items t.lates.items tells.0
