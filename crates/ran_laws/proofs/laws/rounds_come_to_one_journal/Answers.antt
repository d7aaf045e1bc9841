use Rattle.ran_laws.proofs.Rounds.{drains_one}
use Rattle.ran_laws.proofs.laws.rounds_come_to_one_journal.Goals as goal

pub returns : goal.returns
returns c = drains_one
