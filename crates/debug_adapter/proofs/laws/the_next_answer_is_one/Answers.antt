use Rattle.debug_adapter.proofs.Once.{answer_once}
use Rattle.debug_adapter.proofs.laws.the_next_answer_is_one.Goals as goal

pub returns : goal.returns
returns c = answer_once
