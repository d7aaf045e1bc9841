use Rattle.std.proofs.Common.{reverse}
use Rattle.trace_model.proofs.After.{none_after}
use Rattle.trace_model.proofs.laws.nothing_follows_a_report.Goals as goal

pub returns : goal.returns
returns c = λ s journal n legal. none_after s n (reverse journal) legal.each
