-- The attempts that the adapter holds: each from its sending until it is answered, aborted or reset.
use Rattle.std.specs.Prelude.{ℕ, ◌+◌, ◌≤◌, ◌==◌, ◌&&◌, ◌||◌, ◌≡◌, nat_le, Bool, true, false, if◌then◌else◌, List, [], ◌∷◌, Option, None, Some, option_map}
use Rattle.mid_base.specs.declared.names.Attempt.{Attempt}
use Rattle.mid_base.specs.declared.host_spec.CmdSpec.{CmdSpec}
use Rattle.mid_base.specs.declared.host_spec.HostSpec.{HostSpec}
use Rattle.mid_base.specs.declared.faults.Fault.{Fault}
use Rattle.mid_base.specs.declared.faults.Fault.TheVariants.{Latency, Never}
use Rattle.mid_base.specs.declared.answers.Scope.{Scope}
use Rattle.mid_base.specs.declared.answers.Scope.TheVariants.{Cmd}
use Rattle.mid_base.specs.declared.entries.Entry.{Entry}
use Rattle.mid_base.specs.declared.entries.Entry.TheVariants.{Sent, Bounced, Ready, DoneSaid, Aborted, Act}
use Rattle.mid_base.specs.Past.{ticks, attempt_of, find_command}
use Rattle.mid_base.specs.Address.{in_scope}
use Rattle.host_template.specs.Standing.{Before}
use Rattle.fault_plan.specs.declared.class.Class.TheVariants.{Time, Answer}
use Rattle.adapter_tables.specs.declared.held.Held.{Held}
use Rattle.adapter_tables.specs.Counted.{hit}

-- the tick at which an attempt sent at tick t is to be answered: the next one, unless a fault says otherwise
abbrev pub due_tick : ℕ → Option Fault → Option ℕ
due_tick t (Some (Latency k)) = Some (t + k)
due_tick t (Some Never) = None
due_tick t _ = Some (t + 1)

-- an attempt of a command as it is sent after P
abbrev pub sent_as : HostSpec → Before → List Entry → Attempt → CmdSpec → Held
sent_as s b P n k = record {
  n = n;
  dev = k.dev;
  cdb = k.cdb;
  fill = k.fill;
  due = due_tick (ticks P) (hit s b P k.dev Time);
  fault = hit s b P k.dev Answer;
}

abbrev pub without : (Held → Bool) → Option Held → Option Held
without f None = None
without f (Some h) = if f h then None else Some h

abbrev pub is_attempt : ℕ → Held → Bool
is_attempt n h = h.n.0 == n

-- attempt n is to be answered at tick t
abbrev pub due_from : ℕ → ℕ → Held → Held
due_from n t h = if h.n.0 == n then record h { due = Some t } else h

-- levels 4 to 7 reset a device, a target, a bus, the host
abbrev pub is_reset : ℕ → Bool
is_reset level = (level == 4) || (level == 5) || (level == 6) || (level == 7)

-- an act that is ok lets the attempt go: an abort the last one of its command, a reset those in its scope
abbrev pub lets_go : ℕ → Scope → List Entry → Held → Bool
lets_go level (Cmd c) P h = (level == 2) && is_attempt (attempt_of c.0 P) h
lets_go level scope P h = is_reset level && in_scope scope h.dev

-- attempt n, where it is held
abbrev pub held : HostSpec → Before → List Entry → ℕ → Option Held
held s b [] n = None
held s b (Sent c m t ∷ P) n = if m.0 == n then option_map (sent_as s b P m) (find_command s c.0) else held s b P n
held s b (Bounced c m why ∷ P) n = without (is_attempt m.0) (held s b P n)
held s b (Ready m a ∷ P) n = without (is_attempt m.0) (held s b P n)
held s b (DoneSaid m ∷ P) n = option_map (due_from m.0 (ticks P)) (held s b P n)
held s b (Aborted c m ok ∷ P) n = without (λ h. ok && is_attempt m.0 h) (held s b P n)
held s b (Act level scope ok ∷ P) n = without (λ h. ok && lets_go level scope P h) (held s b P n)
held s b (_ ∷ P) n = held s b P n

abbrev pub is_due : ℕ → Option ℕ → Bool
is_due t None = false
is_due t (Some u) = nat_le u t

abbrev pub is_due_held : ℕ → Option Held → Bool
is_due_held t None = false
is_due_held t (Some h) = is_due t h.due

-- (t, n) isn't after (u, m); what is never due comes last
abbrev pub precedes : ℕ → ℕ → Option ℕ → ℕ → Bool
precedes t n None m = true
precedes t n (Some u) m = if t == u then nat_le n m else nat_le t u

abbrev pub precedes_held : ℕ → ℕ → ℕ → Option Held → Bool
precedes_held t n m None = true
precedes_held t n m (Some g) = precedes t n g.due m

-- attempt n is the next to be answered: it is due, and of those held has the least due tick, then the least number
pub record IsNext (s : HostSpec) (b : Before) (P : List Entry) (n : ℕ) (h : Held) : Type 0 where
  pub here : held s b P n ≡ Some h
  pub at : ℕ
  pub due : h.due ≡ Some at
  pub by_now : at ≤ ticks P
  pub least : (m : ℕ) → precedes_held at n m (held s b P m) ≡ true
