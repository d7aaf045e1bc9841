use Rattle.std.proofs.Common.{◌≡◌, map}
use Rattle.play_sched.specs.Runs.{unplayed}
use Rattle.play_sched.proofs.playing.start.Given as goal

abbrev pub invariant-loop-spec : goal.invariant-loop-spec
invariant-loop-spec l = l.hosts.items ≡ map (unplayed l.scans) l.yielded
