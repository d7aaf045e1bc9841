use Rattle.adds_laws.proofs.All.{adds_one}
use Rattle.adds_laws.proofs.laws.what_a_step_adds_is_one_list.Goals as goal

pub returns : goal.returns
returns c = adds_one
