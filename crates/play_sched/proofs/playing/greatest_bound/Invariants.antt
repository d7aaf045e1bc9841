use Rattle.std.proofs.Common.{◌≡◌, map, take}
use Rattle.drain_rounds.specs.Rounds.{greatest}
use Rattle.play_sched.specs.Played.{bound_in}
use Rattle.play_sched.proofs.playing.greatest_bound.Given as goal

abbrev pub invariant-loop-host : goal.invariant-loop-host
invariant-loop-host l = l.most ≡ greatest (map (bound_in l.steps) (take l.host-index l.hosts))
