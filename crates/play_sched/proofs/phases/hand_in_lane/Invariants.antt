use Rattle.std.proofs.Common.{◌-◌, length}
use Rattle.drain_rounds.specs.Rounds.{hand_in}
use Rattle.play_sched.specs.Phases.{Continues}
use Rattle.play_sched.specs.Rest.{GoesOn}
use Rattle.play_sched.proofs.phases.hand_in_lane.Given as goal

abbrev pub invariant-loop-host : goal.invariant-loop-host
invariant-loop-host l = record {
  goes : GoesOn l.fn.host l.host;
  continues : Continues hand_in l.fn.host l.host;
}

abbrev pub decreases-loop-host : goal.decreases-loop-host
decreases-loop-host l = 18446744073709551616 - length l.host.entries
