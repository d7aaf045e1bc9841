use Rattle.ran_laws.proofs.Rounds.{round_one}
use Rattle.ran_laws.proofs.laws.a_round_comes_to_one_journal.Goals as goal

pub returns : goal.returns
returns c = round_one
