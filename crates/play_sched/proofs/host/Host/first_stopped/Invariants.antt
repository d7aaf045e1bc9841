use Rattle.std.proofs.Common.{◌≡◌, drop}
use Rattle.drain_rounds.specs.Rounds.{first_stopped}
use Rattle.play_sched.proofs.host.Host.first_stopped.Given as goal

abbrev pub invariant-loop-place : goal.invariant-loop-place
invariant-loop-place l = l.first ≡ first_stopped l.self.spec l.self.entries (drop l.place l.luns)
