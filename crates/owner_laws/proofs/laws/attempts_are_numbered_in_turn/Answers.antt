use Rattle.owner_laws.proofs.Said.{said_number, said_given, said_once}
use Rattle.owner_laws.proofs.laws.attempts_are_numbered_in_turn.Goals as goal

pub returns-clause-number : goal.returns-clause-number
returns-clause-number c = λ s before after d n t legal. said_number s before after d n t legal.each

pub returns-clause-given : goal.returns-clause-given
returns-clause-given c = λ s journal n legal. said_given s journal n legal.each

pub returns-clause-once : goal.returns-clause-once
returns-clause-once c = λ s journal d e n t u legal. said_once s journal d e n t u legal.each
