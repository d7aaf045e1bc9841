-- The lines of a plan, parted by the devices and the classes that they are for.
use Rattle.std.specs.Prelude.{◌≡◌, Bool, true, false, not, List, filter, map}
use Rattle.mid_base.specs.declared.names.DevAddr.{DevAddr}
use Rattle.mid_base.specs.declared.faults.PlanEntry.{PlanEntry}
use Rattle.mid_base.specs.Address.{same_dev}
use Rattle.fault_plan.specs.declared.class.Class.{Class}
use Rattle.fault_plan.specs.declared.class.Class.TheVariants.{Queue, Time, Answer}
use Rattle.fault_plan.specs.Lines.{lines_in}
use Rattle.fault_plan.specs.Plan.{class_of, same_class}
use Rattle.adapter_tables.specs.declared.device_rows.DevicePlan.{DevicePlan}

abbrev pub is_for : DevAddr → PlanEntry → Bool
is_for d e = same_dev e.dev d

abbrev pub is_in : Class → PlanEntry → Bool
is_in class e = same_class (class_of e.fault) class

-- a class that a call of `queue` can meet
abbrev pub is_queued : Class → Bool
is_queued Queue = true
is_queued Time = true
is_queued Answer = true
is_queued class = false

abbrev pub is_rest : PlanEntry → Bool
is_rest e = not (is_queued (class_of e.fault))

-- the lines of a device: those of each class that a call of `queue` can meet, and the rest
abbrev pub Parts : Type 0
Parts = List PlanEntry × List PlanEntry × List PlanEntry × List PlanEntry

abbrev pub parted : List PlanEntry → Parts
parted all = (filter (is_in Queue) all, filter (is_in Time) all, filter (is_in Answer) all, filter is_rest all)

abbrev pub parts_for : List PlanEntry → DevAddr → Parts
parts_for plan d = parted (filter (is_for d) plan)

abbrev pub shown : DevicePlan → Parts
shown p = (lines_in p.queue, lines_in p.time, lines_in p.answer, lines_in p.rest)

-- each device has its lines
abbrev pub HavePlans : List PlanEntry → List DevAddr → List DevicePlan → Type 0
HavePlans plan devs plans = map shown plans ≡ map (parts_for plan) devs
