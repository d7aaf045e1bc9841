use Rattle.std.proofs.Common.{◌≡◌, ◌++◌, take, map}
use Rattle.mid_base.specs.Levels.{level_of}
use Rattle.escalation.specs.Rungs.{on_device}
use Rattle.escalation.proofs.rungs.add_level.Given as goal

abbrev pub invariant-loop-dev : goal.invariant-loop-dev
invariant-loop-dev l = l.rungs.items ≡ l.fn.rungs.items ++ map (on_device (level_of l.level)) (take l.dev-index l.devices)
