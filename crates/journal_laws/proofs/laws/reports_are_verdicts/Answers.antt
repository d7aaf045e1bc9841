use Rattle.std.proofs.Common.{reverse}
use Rattle.journal_laws.proofs.Verdicts.{told_verdicts}
use Rattle.journal_laws.proofs.laws.reports_are_verdicts.Goals as goal

pub returns : goal.returns
returns c = λ s journal legal. told_verdicts s (reverse journal) legal.each
