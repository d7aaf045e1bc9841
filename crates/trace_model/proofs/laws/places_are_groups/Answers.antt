use Rattle.std.proofs.Common.{reverse}
use Rattle.trace_model.proofs.Readings.{by_groups}
use Rattle.trace_model.proofs.laws.places_are_groups.Goals as goal

pub returns : goal.returns
returns c = λ s journal legal. by_groups s (reverse journal) legal
