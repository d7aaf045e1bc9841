-- Which command is accepted, and which is sent next.
use Rattle.std.specs.Prelude.{ℕ, zero, suc, ◌+◌, ◌==◌, Bool, true, false, not, ◌&&◌, ◌||◌, if◌then◌else◌, List, [], ◌∷◌, Option, None, Some, find, nat_lt}
use Rattle.std.specs.List.{list_any}
use Rattle.mid_base.specs.declared.names.DevAddr.{DevAddr}
use Rattle.mid_base.specs.declared.answers.Answer.{Answer}
use Rattle.mid_base.specs.declared.answers.BusyOf.TheVariants.{Host as HostBusy, Device as DeviceBusy}
use Rattle.mid_base.specs.declared.entries.Entry.{Entry}
use Rattle.mid_base.specs.declared.entries.Entry.TheVariants.{Sent, Bounced, Judged, Again, Tick}
use Rattle.mid_base.specs.declared.host_spec.CmdSpec.{CmdSpec}
use Rattle.mid_base.specs.declared.host_spec.HostSpec.{HostSpec}
use Rattle.mid_base.specs.Address.{same_dev}
use Rattle.mid_base.specs.Answers.{is_good}
use Rattle.mid_base.specs.Codes.{did_ok, task_set_full}
use Rattle.mid_base.specs.Depths.{Depth, after_full, after_good}
use Rattle.trace_model.specs.Names.{dev_of, depth_in, command}
use Rattle.trace_model.specs.Attempts.{sends, answer}
use Rattle.trace_model.specs.Commands.{standing, is_new, waits, holds, taken}
use Rattle.trace_model.specs.Counts.{busy_count, busy_on}
use Rattle.device_states.specs.States.{is_running, is_closed}
use Rattle.trace_model.specs.Devices.{state, is_online, in_recovery}

-- a command of the lane that isn't handed in
abbrev pub is_left : ℕ → List Entry → CmdSpec → Bool
is_left lane P k = (k.lane.0 == lane) && is_new (standing k.id.0 P)

abbrev pub next_of_lane : HostSpec → List Entry → ℕ → Option CmdSpec
next_of_lane s P lane = find (is_left lane P) s.cmds

abbrev pub is_command : ℕ → Option CmdSpec → Bool
is_command c None = false
is_command c (Some k) = k.id.0 == c

-- c is the first of its lane that isn't handed in
abbrev pub is_next_of_lane : HostSpec → List Entry → ℕ → Bool
is_next_of_lane s P c = is_command c (next_of_lane s P (command s c).lane.0)

abbrev pub may_take : HostSpec → List Entry → ℕ → Bool
may_take s P c = is_next_of_lane s P c && not (is_closed (state s (dev_of s c) P))

abbrev pub is_refused : HostSpec → List Entry → ℕ → Bool
is_refused s P c = is_next_of_lane s P c && is_closed (state s (dev_of s c) P)

-- the tags that are held
abbrev pub is_held : HostSpec → List Entry → ℕ → Bool
is_held s P t = list_any (λ k. holds t (standing k.id.0 P)) s.cmds

-- the depth of a device after one of its answers, and the GOODs since it last changed
abbrev pub after_answer : HostSpec → List Entry → DevAddr → Option Answer → Depth → Depth
after_answer s P d None x = x
after_answer s P d (Some a) x =
    if (a.host.0 == did_ok) && (a.status == task_set_full) then after_full (busy_on s P d) x
    else if is_good a then after_good (depth_in s.luns d) x
    else x

abbrev pub depths : HostSpec → DevAddr → List Entry → Depth
depths s d [] = (depth_in s.luns d, 0)
depths s d (Judged c n x ∷ P) = if same_dev (dev_of s c.0) d then after_answer s P d (answer n.0 P) (depths s d P) else depths s d P
depths s d (_ ∷ P) = depths s d P

abbrev pub depth : HostSpec → List Entry → DevAddr → ℕ
depth s P d = (depths s d P).0

-- pauses last until the next tick
abbrev pub host_paused : List Entry → Bool
host_paused [] = false
host_paused (Bounced c n HostBusy ∷ P) = true
host_paused (Tick ∷ P) = false
host_paused (_ ∷ P) = host_paused P

abbrev pub dev_paused : HostSpec → DevAddr → List Entry → Bool
dev_paused s d [] = false
dev_paused s d (Bounced c n DeviceBusy ∷ P) = same_dev (dev_of s c.0) d || dev_paused s d P
dev_paused s d (Again c false ∷ P) = same_dev (dev_of s c.0) d || dev_paused s d P
dev_paused s d (Tick ∷ P) = false
dev_paused s d (_ ∷ P) = dev_paused s d P

-- the device of a command takes one more
abbrev pub is_ready : HostSpec → List Entry → DevAddr → Bool
is_ready s P d =
    is_running (state s d P) && not (host_paused P) && not (dev_paused s d P)
    && nat_lt (busy_count s P) s.can_queue && nat_lt (busy_on s P d) (depth s P d)

abbrev pub is_pickable : HostSpec → List Entry → ℕ → Bool
is_pickable s P c = waits (standing c P) && (not (is_online s (dev_of s c) P) || is_ready s P (dev_of s c))

-- the command that was taken earliest of those that can go
abbrev pub pick : HostSpec → List Entry → Option ℕ
pick s P = find (is_pickable s P) (taken P)

abbrev pub is_number : ℕ → Option ℕ → Bool
is_number c None = false
is_number c (Some d) = d == c

abbrev pub all_below : ℕ → (ℕ → Bool) → Bool
all_below zero f = true
all_below (suc t) f = f t && all_below t f

abbrev pub is_least_free : HostSpec → List Entry → ℕ → Bool
is_least_free s P t = not (is_held s P t) && all_below t (is_held s P)

abbrev pub may_send : HostSpec → List Entry → (c n t : ℕ) → Bool
may_send s P c n t =
    not (in_recovery P) && is_number c (pick s P) && is_online s (dev_of s c) P
    && (n == sends P + 1) && is_least_free s P t

-- c is told at once, since its device is offline
abbrev pub is_stranded : HostSpec → List Entry → ℕ → Bool
is_stranded s P c = not (in_recovery P) && is_number c (pick s P) && not (is_online s (dev_of s c) P)

-- P ends with the Sent of this attempt
abbrev pub just_sent : (c n : ℕ) → List Entry → Bool
just_sent c n (Sent d m t ∷ P) = (d.0 == c) && (m.0 == n)
just_sent c n _ = false
