use Rattle.ran_laws.proofs.Rounds.{count_one, counted}
use Rattle.ran_laws.proofs.laws.rounds_are_counted.Goals as goal

pub returns-clause-made : goal.returns-clause-made
returns-clause-made c = counted

pub returns-clause-one : goal.returns-clause-one
returns-clause-one c = count_one
