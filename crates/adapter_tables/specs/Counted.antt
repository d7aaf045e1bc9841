-- How often each kind of call was made on a device, and which planned fault the next such call meets.
use Rattle.std.specs.Prelude.{ℕ, ◌+◌, ◌==◌, ◌&&◌, Bool, false, is_some, if◌then◌else◌, List, [], ◌∷◌, Option, None, Some, option_map}
use Rattle.std.specs.List.{list_any}
use Rattle.mid_base.specs.declared.names.DevAddr.{DevAddr}
use Rattle.mid_base.specs.declared.host_spec.HostSpec.{HostSpec}
use Rattle.mid_base.specs.declared.faults.Fault.{Fault}
use Rattle.mid_base.specs.declared.answers.Scope.{Scope}
use Rattle.mid_base.specs.declared.answers.Scope.TheVariants.{Cmd}
use Rattle.mid_base.specs.declared.entries.Entry.{Entry}
use Rattle.mid_base.specs.declared.entries.Entry.TheVariants.{Sent, Due, Longer, DoneSaid, Aborted, Act, Probe}
use Rattle.mid_base.specs.Past.{sent_for, find_command}
use Rattle.mid_base.specs.Address.{same_dev, in_scope}
use Rattle.mid_base.specs.Levels.{has_level}
use Rattle.host_template.specs.Standing.{Before, earlier}
use Rattle.fault_plan.specs.declared.class.Class.{Class}
use Rattle.fault_plan.specs.declared.class.Class.TheVariants.{Queue, Time, Answer, Timer, Abort, ResetDevice, ResetTarget, ResetBus, ResetHost, Probe as Probing}
use Rattle.fault_plan.specs.Plan.{planned}

-- the device of command c, where the spec has the command
abbrev pub device_of : HostSpec → ℕ → Option DevAddr
device_of s c = option_map (λ k. k.dev) (find_command s c)

abbrev pub is_at : Option DevAddr → DevAddr → Bool
is_at None d = false
is_at (Some e) d = same_dev e d

-- the device of the command of an act, or those in its scope
abbrev pub is_act_on : HostSpec → Scope → DevAddr → Bool
is_act_on s (Cmd c) d = is_at (device_of s c.0) d
is_act_on s scope d = in_scope scope d

-- the entry tells of a call of this class on device d; the callbacks that the host doesn't have aren't called
abbrev pub counts : HostSpec → Entry → List Entry → DevAddr → Class → Bool
counts s (Sent c n t) P d Queue = is_at (device_of s c.0) d
counts s (Sent c n t) P d Time = is_at (device_of s c.0) d
counts s (Sent c n t) P d Answer = is_at (device_of s c.0) d
counts s (Due n) P d Timer = is_at (device_of s (sent_for n.0 P)) d
counts s (Longer n) P d Timer = is_at (device_of s (sent_for n.0 P)) d
counts s (DoneSaid n) P d Timer = is_at (device_of s (sent_for n.0 P)) d
counts s (Aborted c n ok) P d Abort = has_level s.handlers 2 && is_at (device_of s c.0) d
counts s (Act level scope ok) P d Abort = (level == 2) && has_level s.handlers 2 && is_act_on s scope d
counts s (Act level scope ok) P d ResetDevice = (level == 4) && has_level s.handlers 4 && in_scope scope d
counts s (Act level scope ok) P d ResetTarget = (level == 5) && has_level s.handlers 5 && in_scope scope d
counts s (Act level scope ok) P d ResetBus = (level == 6) && has_level s.handlers 6 && in_scope scope d
counts s (Act level scope ok) P d ResetHost = (level == 7) && has_level s.handlers 7 && in_scope scope d
counts s (Probe e code say) P d Probing = same_dev e d
counts s _ P d _ = false

-- the calls that were made before the journal began: probes alone
abbrev pub counted_before : Before → DevAddr → Class → ℕ
counted_before b d Probing = earlier b d
counted_before b d _ = 0

-- the number of calls of a class on device d
abbrev pub counted : HostSpec → Before → List Entry → DevAddr → Class → ℕ
counted s b [] d class = counted_before b d class
counted s b (e ∷ P) d class = if counts s e P d class then counted s b P d class + 1 else counted s b P d class

-- the fault that the next call of the class on device d meets
abbrev pub hit : HostSpec → Before → List Entry → DevAddr → Class → Option Fault
hit s b P d class = planned s.plan d class (counted s b P d class + 1)

abbrev pub hit_at : HostSpec → Before → List Entry → Option DevAddr → Class → Option Fault
hit_at s b P None class = None
hit_at s b P (Some d) class = hit s b P d class

-- the next reset meets a fault of some unit in its scope
abbrev pub any_hit : HostSpec → Before → List Entry → Scope → Class → Bool
any_hit s b P scope class = list_any (λ l. in_scope scope l.dev && is_some (hit s b P l.dev class)) s.luns
