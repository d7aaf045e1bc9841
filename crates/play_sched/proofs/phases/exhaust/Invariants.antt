use Rattle.std.proofs.Common.{◌-◌, ◌^◌, length}
use Rattle.play_sched.specs.Phases.{Continues, phase_of}
use Rattle.play_sched.specs.Rest.{GoesOn}
use Rattle.play_sched.proofs.phases.exhaust.Given as goal

abbrev pub invariant-loop-step : goal.invariant-loop-step
invariant-loop-step l = record {
  goes : GoesOn l.fn.host l.host;
  continues : Continues (phase_of l.phase) l.fn.host l.host;
}

abbrev pub decreases-loop-step : goal.decreases-loop-step
decreases-loop-step l = 18446744073709551616 - length l.host.entries
