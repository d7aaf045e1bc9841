use Rattle.std.proofs.Common.{reverse}
use Rattle.trace_model.proofs.OnceMore.{told_once}
use Rattle.trace_model.proofs.laws.each_command_is_told_once.Goals as goal

pub returns : goal.returns
returns c = λ s journal n legal. told_once s (reverse journal) n legal
