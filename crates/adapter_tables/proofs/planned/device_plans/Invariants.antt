use Rattle.std.proofs.Common.{take}
use Rattle.adapter_tables.specs.Addresses.{lun_devs}
use Rattle.adapter_tables.specs.Plans.{HavePlans}
use Rattle.adapter_tables.proofs.planned.device_plans.Given as goal

abbrev pub invariant-loop-l : goal.invariant-loop-l
invariant-loop-l l = HavePlans l.plan (lun_devs (take l.l-index l.luns)) l.plans.items
