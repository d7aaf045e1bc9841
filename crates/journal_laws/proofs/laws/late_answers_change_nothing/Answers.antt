use Rattle.journal_laws.proofs.Erased.{journal_still_legal, journal_others_stay}
use Rattle.journal_laws.proofs.laws.late_answers_change_nothing.Goals as goal

pub returns : goal.returns
returns c = λ s journal legal. (journal_still_legal s journal legal, journal_others_stay journal)
