-- A plan in blocks of its lines.
use Rattle.std.specs.Prelude.{List}
use Rattle.std.specs.List.{flat_map}
use Rattle.mid_base.specs.declared.faults.PlanEntry.{PlanEntry}
use Rattle.fault_plan.specs.declared.blocks.Block.{Block}
use Rattle.fault_plan.specs.declared.lines.Lines.{Lines}

abbrev pub lines_of_blocks : List Block → List PlanEntry
lines_of_blocks blocks = flat_map (λ b. b.lines.items) blocks

-- the plan, in its order
abbrev pub lines_in : Lines → List PlanEntry
lines_in l = lines_of_blocks l.blocks.items
