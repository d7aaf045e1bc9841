use Rattle.ran_laws.proofs.Phases.{exhausts_one}
use Rattle.ran_laws.proofs.laws.a_phase_comes_to_one_journal.Goals as goal

pub returns : goal.returns
returns c = exhausts_one
