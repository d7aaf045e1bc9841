use Rattle.journal_laws.proofs.Erased.{journal_left_late, journal_left_good}
use Rattle.journal_laws.proofs.laws.late_answers_alone_go.Goals as goal

pub returns : goal.returns
returns c = λ s journal n legal. (journal_left_late s journal n legal, journal_left_good journal n)
