use Rattle.std.proofs.Common.{reverse}
use Rattle.owner_laws.proofs.Shows.{shown_once}
use Rattle.owner_laws.proofs.Said.{said_shown}
use Rattle.owner_laws.proofs.laws.no_two_tags_show_one_attempt.Goals as goal

pub returns-clause-one : goal.returns-clause-one
returns-clause-one c = λ s journal n t u legal x y. shown_once s (reverse journal) n t u x.0 y.0 legal.each x.1 x.2 y.1 y.2

pub returns-clause-sent : goal.returns-clause-sent
returns-clause-sent c = λ s journal n t legal x. said_shown s journal n t legal.each x
