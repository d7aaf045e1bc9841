use Rattle.std.proofs.Common.{◌≡◌, [], false, IfOk, Ok, Err, refl}
use Rattle.std.specs.Prelude.{Result}
use Rattle.mid_base.specs.declared.answers.NoMemory.{NoMemory}
use Rattle.mid_base.specs.declared.host_spec.HostSpec.{HostSpec}
use Rattle.attempt_table.specs.declared.attempts.Attempts.{Attempts}
use Rattle.attempt_table.specs.AttemptsAgree.{AttemptsAgree, IsTied}
use Rattle.attempt_table.proofs.test_calls.three_tags.Goals as goal

abbrev host : HostSpec
host = record { no = record { 0 = 0 }; can_queue = 3; handlers = record { 0 = 0 }; no_async_abort = false; luns = []; cmds = []; plan = [] }

tied : (r : Result Attempts NoMemory) → IfOk r (λ t. (s : HostSpec) → s.can_queue ≡ 3 → AttemptsAgree s [] t) → IfOk r (λ t. IsTied t)
tied (Ok t) h = record { spec = host; entries = []; agrees = h host refl }
tied (Err e) h = h

pub returns : goal.returns
returns c = tied c.new.result c.new.ensures
