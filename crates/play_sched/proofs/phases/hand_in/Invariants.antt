use Rattle.drain_rounds.specs.Rounds.{hand_in}
use Rattle.play_sched.specs.Phases.{Continues}
use Rattle.play_sched.specs.Rest.{GoesOn, IsHandedInBelow}
use Rattle.play_sched.proofs.phases.hand_in.Given as goal

abbrev pub invariant-loop-lane : goal.invariant-loop-lane
invariant-loop-lane l = record {
  goes : GoesOn l.fn.host l.host;
  continues : Continues hand_in l.fn.host l.host;
  below : IsHandedInBelow l.lane l.host.spec l.host.entries;
}
