-- The lower layer's part of a journal is that of the adapter. P has the newest entry first.
use Rattle.std.specs.Prelude.{◌≡◌, ℕ, ◌==◌, ◌&&◌, ◌||◌, Bool, true, false, not, is_some, if◌then◌else◌, List, [], ◌∷◌, Option, None, Some}
use Rattle.mid_base.specs.declared.names.DevAddr.{DevAddr}
use Rattle.mid_base.specs.declared.names.Attempt.{Attempt}
use Rattle.mid_base.specs.declared.host_spec.HostSpec.{HostSpec}
use Rattle.mid_base.specs.declared.faults.Fault.{Fault}
use Rattle.mid_base.specs.declared.faults.Fault.TheVariants.{HostBusy, Longer as LongerHit, TimerDone}
use Rattle.mid_base.specs.declared.answers.BusyOf.{BusyOf}
use Rattle.mid_base.specs.declared.answers.BusyOf.TheVariants.{Host as BusyHost, Device as BusyDevice}
use Rattle.mid_base.specs.declared.answers.Answer.{Answer}
use Rattle.mid_base.specs.declared.answers.Scope.{Scope}
use Rattle.mid_base.specs.declared.answers.Scope.TheVariants.{Cmd}
use Rattle.mid_base.specs.declared.entries.Entry.{Entry}
use Rattle.mid_base.specs.declared.entries.Entry.TheVariants.{Sent, Bounced, Ready, Due, Longer, DoneSaid, Aborted, Sensed, Act, Probe, Tick}
use Rattle.mid_base.specs.Past.{ticks, sent_for}
use Rattle.mid_base.specs.Bytes.{sense_list}
use Rattle.mid_base.specs.Levels.{has_level}
use Rattle.mid_base.specs.Codes.{request_sense}
use Rattle.host_template.specs.Standing.{Before}
use Rattle.fault_plan.specs.declared.class.Class.{Class}
use Rattle.fault_plan.specs.declared.class.Class.TheVariants.{Queue, Timer, Abort, ResetDevice, ResetTarget, ResetBus, ResetHost}
use Rattle.debug_lun.specs.Units.{reply_of}
use Rattle.adapter_tables.specs.declared.held.Held.{Held}
use Rattle.adapter_tables.specs.Counted.{device_of, hit_at, any_hit}
use Rattle.adapter_tables.specs.Held.{held, is_reset, is_due_held, IsNext}
use Rattle.adapter_tables.specs.Units.{unit, target_luns, outcome, probe_gives, reply_in, data_in, reply_said, is_good_reply}

-- a busy answer, and of whom
abbrev pub Bounces : Option Fault → BusyOf → Type 0
Bounces None why = ⊥
Bounces (Some HostBusy) why = why ≡ BusyHost
Bounces (Some fault) why = why ≡ BusyDevice

-- the fault that the asking about attempt n meets
abbrev pub timer_hit : HostSpec → Before → List Entry → Attempt → Option Fault
timer_hit s b P n = hit_at s b P (device_of s (sent_for n.0 P)) Timer

-- attempt n is the next to be answered, and this is its answer
abbrev pub MayAnswer : HostSpec → Before → List Entry → Attempt → Answer → Type 0
MayAnswer s b P n a =
    (h : Held) × IsNext s b P n.0 h × (reply_of a ≡ (outcome (target_luns s.luns h.dev) h (unit s b P h.dev)).1)

abbrev pub reset_class : ℕ → Class
reset_class level =
    if level == 4 then ResetDevice else if level == 5 then ResetTarget else if level == 6 then ResetBus else ResetHost

abbrev pub no_hit_at : HostSpec → Before → List Entry → Option DevAddr → Class → Bool
no_hit_at s b P d class = not (is_some (hit_at s b P d class))

-- REQUEST SENSE on the device will be GOOD
abbrev pub fetches : HostSpec → Before → List Entry → Option DevAddr → Bool
fetches s b P None = false
fetches s b P (Some d) = is_good_reply (reply_in (probe_gives s b P d request_sense))

-- whether an act is ok: level 1 where its probe is GOOD; the others where the host has the callback and no fault hits
abbrev pub act_ok : HostSpec → Before → List Entry → ℕ → Scope → Bool
act_ok s b P level (Cmd c) =
    if level == 1 then fetches s b P (device_of s c.0)
    else has_level s.handlers level && no_hit_at s b P (device_of s c.0) Abort
act_ok s b P level scope = has_level s.handlers level && not (any_hit s b P scope (reset_class level))

-- the acts of which the lower layer decides whether they are ok; level 3 goes by its probe, and level 8 is always ok
abbrev pub tells_act : ℕ → Bool
tells_act level = (level == 1) || (level == 2) || is_reset level

abbrev pub LowerRun : HostSpec → Before → List Entry → Type 0
LowerRun s b [] = Unit {0}
-- it is busy exactly where the plan says
LowerRun s b (Bounced c n why ∷ Sent d m t ∷ P) =
    (c ≡ d) × (n ≡ m) × Bounces (hit_at s b P (device_of s d.0) Queue) why × LowerRun s b P
LowerRun s b (Bounced c n why ∷ P) = ⊥
LowerRun s b (Sent c n t ∷ P) = (hit_at s b P (device_of s c.0) Queue ≡ None) × LowerRun s b P
-- it answers in the order of due ticks and numbers, and time waits for it
LowerRun s b (Ready n a ∷ P) = MayAnswer s b P n a × LowerRun s b P
LowerRun s b (Tick ∷ P) = ((n : ℕ) → is_due_held (ticks P) (held s b P n) ≡ false) × LowerRun s b P
-- timeouts
LowerRun s b (Due n ∷ P) = (timer_hit s b P n ≡ None) × LowerRun s b P
LowerRun s b (Longer n ∷ P) = (timer_hit s b P n ≡ Some LongerHit) × LowerRun s b P
LowerRun s b (DoneSaid n ∷ P) = (timer_hit s b P n ≡ Some TimerDone) × LowerRun s b P
-- aborts and resets
LowerRun s b (Aborted c n ok ∷ P) =
    (ok ≡ has_level s.handlers 2 && no_hit_at s b P (device_of s c.0) Abort) × LowerRun s b P
LowerRun s b (Act level scope ok ∷ P) = (tells_act level ≡ true → ok ≡ act_ok s b P level scope) × LowerRun s b P
-- probes, and what REQUEST SENSE fetched
LowerRun s b (Probe d code say ∷ P) = (reply_said say ≡ reply_in (probe_gives s b P d code)) × LowerRun s b P
LowerRun s b (Sensed c n bytes ∷ Probe d code say ∷ P) =
    (sense_list bytes ≡ data_in (probe_gives s b P d code)) × LowerRun s b (Probe d code say ∷ P)
LowerRun s b (Sensed c n bytes ∷ P) = ⊥
LowerRun s b (_ ∷ P) = LowerRun s b P
