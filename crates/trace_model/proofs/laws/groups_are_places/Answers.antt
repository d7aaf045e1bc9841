use Rattle.std.proofs.Common.{reverse}
use Rattle.trace_model.proofs.Readings.{by_places}
use Rattle.trace_model.proofs.laws.groups_are_places.Goals as goal

pub returns : goal.returns
returns c = λ s journal legal. by_places s (reverse journal) legal
