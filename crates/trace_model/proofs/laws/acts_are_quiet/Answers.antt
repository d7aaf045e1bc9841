use Rattle.std.proofs.Common.{reverse}
use Rattle.trace_model.proofs.Quiet.{quiet_acts}
use Rattle.trace_model.proofs.laws.acts_are_quiet.Goals as goal

pub returns : goal.returns
returns c = λ s journal legal. quiet_acts s (reverse journal) legal
