use Rattle.owner_laws.proofs.Said.{said_sent, said_tag, said_command, said_owner}
use Rattle.owner_laws.proofs.laws.words_of_attempts_are_entries.Goals as goal

pub returns-clause-sent : goal.returns-clause-sent
returns-clause-sent c = λ journal n. said_sent journal n

pub returns-clause-tag : goal.returns-clause-tag
returns-clause-tag c = λ s journal d n t legal. said_tag s journal d n t legal.each

pub returns-clause-command : goal.returns-clause-command
returns-clause-command c = λ s journal d n t legal. said_command s journal d n t legal.each

pub returns-clause-owner : goal.returns-clause-owner
returns-clause-owner c = λ s journal n by legal. said_owner s journal n by legal.each
