use Rattle.std.proofs.Common.{◌≡◌, take}
use Rattle.play_sched.specs.Played.{Plays}
use Rattle.play_sched.specs.Runs.{specs_of}
use Rattle.play_sched.proofs.playing.play_steps.Given as goal

abbrev pub invariant-loop-line : goal.invariant-loop-line
invariant-loop-line l = record {
  plays : Plays (take l.line-index l.steps) l.fn.hosts l.hosts l.skips.items;
  specs : specs_of l.hosts ≡ specs_of l.fn.hosts;
}
