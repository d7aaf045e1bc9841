-- The table of deadlines has what the entries P, the newest first, say of deadlines.
use Rattle.std.specs.Prelude.{◌≡◌, ℕ, ◌+◌, ◌<◌, ◌≤◌, Bool, false, not, ◌&&◌, if◌then◌else◌, List, Option, Some, None, is_some, length}
use Rattle.mid_base.specs.declared.entries.Entry.{Entry}
use Rattle.mid_base.specs.declared.entries.Entry.TheVariants.{Took, Ready, Late, Judged, AbortSet, Aborted, Failed, Cleared, Sensed, Again, Told, EhBegin, EhEnd, Act, Probe, Offline, State}
use Rattle.mid_base.specs.declared.host_spec.HostSpec.{HostSpec}
use Rattle.mid_base.specs.Past.{ticks, was_sent, sent_for}
use Rattle.trace_model.specs.Names.{command}
use Rattle.trace_model.specs.Attempts.{is_open, longers, is_due, is_said_done}
use Rattle.trace_model.specs.Time.{deadline}
use Rattle.timer_list.specs.Timers.{Timer, Timers, deadline_of, Becomes}
use Rattle.deadline_table.specs.declared.deadlines.Deadlines.{Deadlines}

-- attempt n waits for its deadline: its timer runs
abbrev pub is_timed : ℕ → List Entry → Bool
is_timed n P = is_open n P && not (is_due n P) && not (is_said_done n P)

-- until when it waits, None where it doesn't
abbrev pub waits_until : HostSpec → List Entry → ℕ → Option ℕ
waits_until s P n = if is_timed n P then Some (deadline s P n) else None

-- the timeout of its command
abbrev pub timeout_of : HostSpec → List Entry → ℕ → ℕ
timeout_of s P n = (command s (sent_for n P)).timeout

-- the deadline is neither before now nor more than a timeout after it
abbrev pub IsNear : HostSpec → List Entry → ℕ → ℕ → Type 0
IsNear s P n at = (ticks P ≤ at) × (at ≤ ticks P + timeout_of s P n)

-- nothing was said of attempt n
abbrev pub IsUnsaid : List Entry → ℕ → Type 0
IsUnsaid P n = (is_open n P ≡ false) × (is_due n P ≡ false) × (is_said_done n P ≡ false) × (longers n P ≡ 0)

pub record Says (s : HostSpec) (P : List Entry) (timers : List Timer) : Type 0 where
  pub waits : (n : ℕ) → deadline_of n timers ≡ waits_until s P n
  pub near : (n at : ℕ) → deadline_of n timers ≡ Some at → IsNear s P n at
  pub unsent : (n : ℕ) → was_sent n P ≡ false → IsUnsaid P n

abbrev pub DeadlinesAgree : HostSpec → List Entry → Deadlines → Type 0
DeadlinesAgree s P t = Says s P t.timers.timers

-- room for one attempt more
abbrev pub HasRoom : Deadlines → Type 0
HasRoom t = length t.timers.timers < t.timers.most

-- attempt n waits, and its time is up at the tick `now`
abbrev pub IsDueAt : ℕ → ℕ → List Timer → Type 0
IsDueAt n now timers = (at : ℕ) × (deadline_of n timers ≡ Some at) × (at ≤ now)

-- the timer of attempt n runs no longer, and every other is as it was
pub record Stops (n : ℕ) (old new : Timers) : Type 0 where
  pub deadlines : Becomes n None old.timers new.timers
  pub count : length old.timers ≡ length new.timers + (if is_some (deadline_of n old.timers) then 1 else 0)
  pub most : new.most ≡ old.most

-- the entries that start no timer, move no deadline and stop no timer
abbrev pub IsApart : Entry → Type 0
IsApart (Took c) = Unit {0}
IsApart (Ready n a) = Unit {0}
IsApart (Late n) = Unit {0}
IsApart (Judged c n d) = Unit {0}
IsApart (AbortSet c n) = Unit {0}
IsApart (Aborted c n ok) = Unit {0}
IsApart (Failed c n x) = Unit {0}
IsApart (Cleared c level) = Unit {0}
IsApart (Sensed c n sense) = Unit {0}
IsApart (Again c counted) = Unit {0}
IsApart (Told c a) = Unit {0}
IsApart EhBegin = Unit {0}
IsApart EhEnd = Unit {0}
IsApart (Act level scope ok) = Unit {0}
IsApart (Probe d op say) = Unit {0}
IsApart (Offline d) = Unit {0}
IsApart (State d x) = Unit {0}
IsApart e = ⊥
