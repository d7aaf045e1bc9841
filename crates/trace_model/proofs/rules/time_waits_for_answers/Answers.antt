use Rattle.trace_model.proofs.Single.{ready_waits}
use Rattle.trace_model.proofs.rules.time_waits_for_answers.Goals as goal

pub returns : goal.returns
returns c = λ s P n a. ready_waits s P n a
