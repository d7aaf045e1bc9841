use Rattle.play_sched.specs.Phases.{IsAtRest}
use Rattle.play_sched.specs.Rest.{GoesOn}
use Rattle.play_sched.proofs.Joined.{Follows}
use Rattle.play_sched.proofs.draining.drain.Given as goal

abbrev pub invariant-loop : goal.invariant-loop
invariant-loop l = record {
  goes : GoesOn l.fn.host l.host;
  rest : IsAtRest l.rest l.host;
  follows : Follows l.counter l.fn.host l.host;
}
