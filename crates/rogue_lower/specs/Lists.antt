-- What a rogue lower layer has left to say.
use Rattle.std.specs.Prelude.{ℕ, List, Vec, map}
use Rattle.std.specs.declared.alloc.Global.{Global}
use Rattle.mid_base.specs.declared.names.Attempt.{Attempt}
use Rattle.mid_base.specs.declared.names.Tick.{Tick}
use Rattle.mid_base.specs.declared.answers.Answer.{Answer}
use Rattle.mid_base.specs.declared.answers.ProbeSay.{ProbeSay}
use Rattle.host_template.specs.declared.queued.Queued.{Queued}
use Rattle.host_template.specs.declared.says.EhSay.{EhSay}
use Rattle.host_template.specs.declared.says.TimerSay.{TimerSay}

pub record Lists : Type 0 where
  pub queues : List Queued
  pub answers : List (Tick × Attempt × Answer)
  pub timers : List TimerSay
  pub says : List EhSay
  pub probes : List (ProbeSay × List ℕ)

-- what a probe is answered, with its bytes
abbrev pub with_bytes : ProbeSay × Vec ℕ Global → ProbeSay × List ℕ
with_bytes p = (p.0, p.1.items)

abbrev pub lists_of : List Queued → List (Tick × Attempt × Answer) → List TimerSay → List EhSay
    → List (ProbeSay × Vec ℕ Global) → Lists
lists_of queues answers timers says probes =
    record { queues = queues; answers = answers; timers = timers; says = says; probes = map with_bytes probes }
