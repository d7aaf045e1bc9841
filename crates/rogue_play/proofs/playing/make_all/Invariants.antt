use Rattle.std.proofs.Common.{◌≡◌}
use Rattle.rogue_play.proofs.playing.make_all.Given as goal

abbrev pub invariant-loop-line : goal.invariant-loop-line
invariant-loop-line l = l.core.spec ≡ l.fn.core.spec
