use Rattle.std.proofs.Common.{◌≡◌, take, None}
use Rattle.fault_plan.specs.Lines.{lines_of_blocks}
use Rattle.fault_plan.specs.Plan.{planned}
use Rattle.fault_plan.proofs.lines.Lines.meet.Given as goal

abbrev pub invariant-loop-block : goal.invariant-loop-block
invariant-loop-block l = planned (lines_of_blocks (take l.block-index l.self.blocks.items)) l.dev l.class l.nth ≡ None
