use Rattle.journal_laws.proofs.Heads.{headline}
use Rattle.journal_laws.proofs.laws.legal_journals_keep_the_headline.Goals as goal

pub returns : goal.returns
returns c = λ s journal legal. headline s journal legal
