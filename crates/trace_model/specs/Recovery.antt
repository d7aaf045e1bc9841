-- The failed commands, the to-do list and the next act.
use Rattle.std.specs.Prelude.{ℕ, ◌==◌, Bool, true, false, not, ◌&&◌, ◌||◌, if◌then◌else◌, List, [], ◌∷◌, ◌++◌, map, Option, None, Some, filter}
use Rattle.std.specs.List.{list_any, list_all}
use Rattle.mid_base.specs.declared.names.CmdId.{CmdId}
use Rattle.mid_base.specs.declared.names.Attempt.{Attempt}
use Rattle.mid_base.specs.declared.entries.Entry.{Entry}
use Rattle.mid_base.specs.declared.entries.Entry.TheVariants.{Failed, Cleared, Again, Told, EhBegin, Act}
use Rattle.mid_base.specs.declared.host_spec.HostSpec.{HostSpec}
use Rattle.trace_model.specs.Names.{command, dev_of}
use Rattle.trace_model.specs.Attempts.{answer}
use Rattle.trace_model.specs.Commands.{standing, is_busy, is_failed, retries}
use Rattle.trace_model.specs.Devices.{is_online, has_begun}
use Rattle.disposition.specs.declared.todo.Cx.{Cx}
use Rattle.disposition.specs.declared.todo.Todo.{Todo}
use Rattle.mid_base.specs.Levels.{Level, can_succeed, can_fail}
use Rattle.disposition.specs.Ladder.{Pair, next_of}

-- a failed command with its attempt
pub record Failure : Type 0 where
  pub cmd : CmdId
  pub attempt : Attempt
  pub cancelled : Bool

-- the failed commands, in the order of Failed
abbrev pub failed : List Entry → List Failure
failed [] = []
failed (Failed c n x ∷ P) = failed P ++ record { cmd = c; attempt = n; cancelled = x } ∷ []
failed (Again c counted ∷ P) = filter (λ f. not (f.cmd.0 == c.0)) (failed P)
failed (Told c a ∷ P) = filter (λ f. not (f.cmd.0 == c.0)) (failed P)
failed (_ ∷ P) = failed P

-- every busy command is failed
abbrev pub is_quiet : HostSpec → List Entry → Bool
is_quiet s P = list_all (λ k. not (is_busy (standing k.id.0 P)) || is_failed k.id.0 P) s.cmds

-- c was cleared in this recovery
abbrev pub is_cleared : ℕ → List Entry → Bool
is_cleared c [] = false
is_cleared c (Cleared d level ∷ P) = if d.0 == c then true else is_cleared c P
is_cleared c (EhBegin ∷ P) = false
is_cleared c (_ ∷ P) = is_cleared c P

abbrev pub cx_of : HostSpec → List Entry → ℕ → Cx
cx_of s P c = record { retries = retries c P; allowed = (command s c).allowed; failfast = (command s c).failfast; online = is_online s (dev_of s c) P }

abbrev pub todo_of : HostSpec → List Entry → Failure → Todo
todo_of s P f = record { cmd = f.cmd; n = f.attempt; dev = dev_of s f.cmd.0; cancelled = f.cancelled; answer = if f.cancelled then None else answer f.attempt.0 P; cx = cx_of s P f.cmd.0 }

abbrev pub listed : HostSpec → List Entry → List Todo
listed s P = map (todo_of s P) (failed P)

abbrev pub todo : HostSpec → List Entry → List Todo
todo s P = filter (λ x. not (is_cleared x.cmd.0 P)) (listed s P)

-- the last act since EhBegin
abbrev pub last_act : List Entry → Option Pair
last_act [] = None
last_act (Act level scope ok ∷ P) = Some (level, scope)
last_act (EhBegin ∷ P) = None
last_act (_ ∷ P) = last_act P

abbrev pub next_act : HostSpec → List Entry → Option Pair
next_act s P = next_of s.no_async_abort (last_act P) (listed s P) (todo s P)

abbrev pub may_begin : HostSpec → List Entry → Bool
may_begin s P = is_quiet s P && not (has_begun P) && list_any (λ f. true) (failed P)

abbrev pub may_act : HostSpec → List Entry → Level → Bool → Bool
may_act s P level ok = is_quiet s P && has_begun P && (if ok then can_succeed s.handlers level else can_fail level)
