use Rattle.std.proofs.Common.{take}
use Rattle.std.specs.Prelude.{All}
use Rattle.play_sched.specs.Runs.{IsRun}
use Rattle.play_sched.proofs.playing.know_runs.Given as goal

abbrev pub invariant-loop-host : goal.invariant-loop-host
invariant-loop-host l = All IsRun (take l.host-index l.hosts)
