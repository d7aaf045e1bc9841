use Rattle.attempt_table.proofs.Shown.{live_is_shown}
use Rattle.attempt_table.proofs.laws.an_attempt_under_way_holds_its_tag.Goals as goal

pub returns : goal.returns
returns c = λ s P t tells. live_is_shown s P t.rows.items t.tags.items t.kept.items t.claims.items t.lates.items tells.0
