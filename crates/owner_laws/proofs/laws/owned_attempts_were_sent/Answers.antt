use Rattle.owner_laws.proofs.Said.{said_before, said_numbered}
use Rattle.owner_laws.proofs.laws.owned_attempts_were_sent.Goals as goal

pub returns-clause-before : goal.returns-clause-before
returns-clause-before c = λ s before after n by legal. said_before s before after n by legal.each

pub returns-clause-numbered : goal.returns-clause-numbered
returns-clause-numbered c = λ s journal n by legal. said_numbered s journal n by legal.each
