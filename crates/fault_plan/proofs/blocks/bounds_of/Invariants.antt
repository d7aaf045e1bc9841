use Rattle.std.proofs.Common.{◌≡◌, take, true}
use Rattle.std.specs.List.{list_all}
use Rattle.fault_plan.specs.Bounds.{is_between}
use Rattle.fault_plan.proofs.blocks.bounds_of.Given as goal

abbrev pub invariant-loop-entry : goal.invariant-loop-entry
invariant-loop-entry l = list_all (is_between l.least l.most) (take l.entry-index l.lines) ≡ true
