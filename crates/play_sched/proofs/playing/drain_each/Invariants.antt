use Rattle.play_sched.specs.Played.{DrainEach}
use Rattle.play_sched.proofs.playing.drain_each.Given as goal

abbrev pub invariant-loop-host : goal.invariant-loop-host
invariant-loop-host l = DrainEach l.most l.yielded l.drained.items
