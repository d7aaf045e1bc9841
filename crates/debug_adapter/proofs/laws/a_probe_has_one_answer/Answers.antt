use Rattle.debug_adapter.proofs.Once.{probe_once}
use Rattle.debug_adapter.proofs.laws.a_probe_has_one_answer.Goals as goal

pub returns : goal.returns
returns c = probe_once
