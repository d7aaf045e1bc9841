-- For how many rounds a host is run on where its script says no budget.
use Rattle.std.specs.Prelude.{ℕ, ◌+◌, ◌*◌, max, map, sum_by}
use Rattle.mid_base.specs.declared.faults.Fault.{Fault}
use Rattle.mid_base.specs.declared.faults.Fault.TheVariants.{Latency}
use Rattle.mid_base.specs.declared.host_spec.HostSpec.{HostSpec}
use Rattle.drain_rounds.specs.Rounds.{greatest}

abbrev pub latency_of : Fault → ℕ
latency_of (Latency ticks) = ticks
latency_of _ = 1

abbrev pub longest_timeout : HostSpec → ℕ
longest_timeout s = greatest (map (λ k. k.timeout) s.cmds)

abbrev pub longest_latency : HostSpec → ℕ
longest_latency s = max 1 (greatest (map (λ e. latency_of e.fault) s.plan))

-- what a host may have to do: its commands with their retries, the uses of its planned faults, and `states` lines that set
-- the state of one of its devices
abbrev pub work_of : HostSpec → ℕ → ℕ
work_of s states = 1 + sum_by (λ k. k.allowed + 2) s.cmds + sum_by (λ e. e.uses) s.plan + states

abbrev pub host_bound : HostSpec → ℕ → ℕ
host_bound s states = (longest_timeout s + longest_latency s + 4) * work_of s states
