use Rattle.ran_laws.proofs.Scripts.{outcome_one}
use Rattle.ran_laws.proofs.laws.a_playable_script_has_one_outcome.Goals as goal

pub returns : goal.returns
returns c = outcome_one
