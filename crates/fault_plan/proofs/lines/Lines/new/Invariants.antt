use Rattle.std.proofs.Common.{◌≡◌, ◌++◌, length}
use Rattle.fault_plan.specs.Lines.{lines_of_blocks}
use Rattle.fault_plan.proofs.lines.Lines.new.Given as goal

abbrev pub decreases-loop-rest : goal.decreases-loop-rest
decreases-loop-rest l = length l.rest

abbrev pub invariant-loop-rest : goal.invariant-loop-rest
invariant-loop-rest l = lines_of_blocks l.blocks.items ++ l.rest ≡ l.plan
