use Rattle.std.proofs.Common.{refl}
use Rattle.trace_model.proofs.rules.nothing_is_sent_in_recovery.Goals as goal

pub returns : goal.returns
returns c = λ s P c n t e. rw e refl
