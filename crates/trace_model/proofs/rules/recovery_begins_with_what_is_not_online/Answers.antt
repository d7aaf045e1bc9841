use Rattle.std.proofs.Common.{ap}
use Rattle.trace_model.specs.Climb.{clear}
use Rattle.trace_model.specs.Recovery.{listed}
use Rattle.trace_model.specs.Rules.{is_lost}
use Rattle.trace_model.proofs.Single.{all_kept}
use Rattle.trace_model.proofs.rules.recovery_begins_with_what_is_not_online.Goals as goal

pub returns : goal.returns
returns c = λ s P all. ap (clear 0) (all_kept (is_lost s P) (listed s P) all)
