use Rattle.std.proofs.Common.{reverse}
use Rattle.journal_laws.proofs.GoodStays.{good_told}
use Rattle.journal_laws.proofs.laws.good_answers_are_told.Goals as goal

pub returns : goal.returns
returns c = λ s journal n a legal by done e g. good_told s (reverse journal) n a legal by done e g
