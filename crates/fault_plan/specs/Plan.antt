-- The plan of a simulated lower layer: of which class each fault is, which numbers an entry hits, and which fault a
-- call meets.
--
-- Calls are counted for each device and class on its own, from 1 on. An entry hits the numbers first, first + every,
-- first + 2 * every and so on, as many of them as it has uses. Where several entries hit, the first in the plan counts.
use Rattle.std.specs.Prelude.{ℕ, ◌≡◌, ◌<◌, ◌+◌, ◌-◌, ◌*◌, ◌/◌, ◌%◌, ◌==◌, ◌&&◌, Bool, true, false, List, Option, nat_le, nat_lt, if◌then◌else◌, find, option_map}
use Rattle.mid_base.specs.declared.names.DevAddr.{DevAddr}
use Rattle.mid_base.specs.declared.faults.Fault.{Fault}
use Rattle.mid_base.specs.declared.faults.Fault.TheVariants as fault
use Rattle.mid_base.specs.declared.faults.PlanEntry.{PlanEntry}
use Rattle.mid_base.specs.Address.{same_dev}
use Rattle.fault_plan.specs.declared.class.Class.{Class}
use Rattle.fault_plan.specs.declared.class.Class.TheVariants.{Queue, Time, Answer, Timer, Abort, ResetDevice, ResetTarget, ResetBus, ResetHost, Probe}

-- the class whose calls are counted for a fault
abbrev pub class_of : Fault → Class
class_of fault.HostBusy = Queue
class_of fault.Busy = Queue
class_of (fault.Latency ticks) = Time
class_of fault.Never = Time
class_of (fault.Check key asc ascq) = Answer
class_of (fault.NoSense key asc ascq) = Answer
class_of (fault.Raw sense) = Answer
class_of (fault.Status host status) = Answer
class_of fault.Longer = Timer
class_of fault.TimerDone = Timer
class_of fault.AbortFail = Abort
class_of fault.Rdev = ResetDevice
class_of fault.Rtgt = ResetTarget
class_of fault.Rbus = ResetBus
class_of fault.Rhost = ResetHost
class_of fault.Silent = Probe

abbrev pub same_class : Class → Class → Bool
same_class Queue Queue = true
same_class Time Time = true
same_class Answer Answer = true
same_class Timer Timer = true
same_class Abort Abort = true
same_class ResetDevice ResetDevice = true
same_class ResetTarget ResetTarget = true
same_class ResetBus ResetBus = true
same_class ResetHost ResetHost = true
same_class Probe Probe = true
same_class _ _ = false

-- the number is one of first, first + every, first + 2 * every and so on, `uses` of them; with an `every` of 0 all of
-- them are first
abbrev pub hits : PlanEntry → ℕ → Bool
hits e nth =
    nat_le e.first nth
    && (if e.every == 0 then nth == e.first && nat_lt 0 e.uses
    else (nth - e.first) % e.every == 0 && nat_lt ((nth - e.first) / e.every) e.uses)

-- the number is first + k * every for some k below the uses: `hits` in other words, as the law of the crate says
abbrev pub IsNumberOf : PlanEntry → ℕ → Type 0
IsNumberOf e nth = (k : ℕ) × (k < e.uses) × (nth ≡ e.first + k * e.every)

-- the entry is of this device and class and hits the number
abbrev pub is_hit : DevAddr → Class → ℕ → PlanEntry → Bool
is_hit dev class nth e = same_dev e.dev dev && same_class (class_of e.fault) class && hits e nth

-- the fault of the first entry that is hit
abbrev pub planned : List PlanEntry → DevAddr → Class → ℕ → Option Fault
planned plan dev class nth = option_map (λ e. e.fault) (find (is_hit dev class nth) plan)
