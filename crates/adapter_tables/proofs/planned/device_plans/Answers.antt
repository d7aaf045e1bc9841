use Rattle.std.proofs.Common.{arith}
use Rattle.adapter_tables.proofs.PlanParts.{next_plan}
use Rattle.adapter_tables.proofs.planned.device_plans.Goals as goal

pub loop-l-preserved : goal.loop-l-preserved
loop-l-preserved c = next_plan c.args.plan.now c.args.luns.now c.loop-l.l-index _ c.loop-l.plans.items c.put_plan.new.plans.items c.in_ok-new.field-0 (omega arith) c.loop-l.invariant c.in_ok-put_plan.ensures c.in_ok-new.ensures
