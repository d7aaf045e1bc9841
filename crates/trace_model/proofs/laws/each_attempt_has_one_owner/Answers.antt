use Rattle.std.proofs.Common.{reverse}
use Rattle.trace_model.proofs.Owners.{one_owner}
use Rattle.trace_model.proofs.laws.each_attempt_has_one_owner.Goals as goal

pub returns : goal.returns
returns c = λ s journal n legal. one_owner s (reverse journal) n legal
