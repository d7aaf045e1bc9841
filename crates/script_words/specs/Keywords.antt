-- The words that name lines, steps, owners, faults, states and ends.
use Rattle.std.specs.Prelude.{ℕ, ◌==◌, Bool, true, false, if◌then◌else◌, List, [], ◌∷◌, Option, Some, None, codes}
use Rattle.std.specs.Str.{bytes_eq}
use Rattle.mid_base.specs.declared.answers.By.{By}
use Rattle.mid_base.specs.declared.answers.By.TheVariants as owners
use Rattle.mid_base.specs.declared.states.DeviceState.{DeviceState}
use Rattle.mid_base.specs.declared.states.DeviceState.TheVariants as states
use Rattle.script_words.specs.declared.keywords.Keyword.{Keyword}
use Rattle.script_words.specs.declared.keywords.Keyword.TheVariants as lines
use Rattle.script_words.specs.declared.keywords.StepName.{StepName}
use Rattle.script_words.specs.declared.keywords.StepName.TheVariants as steps
use Rattle.script_words.specs.declared.keywords.EhName.{EhName}
use Rattle.script_words.specs.declared.keywords.EhName.TheVariants as recovery
use Rattle.script_words.specs.declared.keywords.EndName.{EndName}
use Rattle.script_words.specs.declared.keywords.EndName.TheVariants as ends
use Rattle.script_words.specs.declared.plan_kinds.PlanKind.{PlanKind}
use Rattle.script_words.specs.declared.plan_kinds.PlanKind.TheVariants as plans

-- a remark, as a first word
abbrev pub is_remark : List ℕ → Bool
is_remark [] = false
is_remark (b ∷ bs) = b == 35

-- the first word of a line
unfoldable pub keyword : List ℕ → Option Keyword
keyword word =
    if bytes_eq word (codes "host") then Some lines.HostLine
    else if bytes_eq word (codes "lun") then Some lines.LunLine
    else if bytes_eq word (codes "plan") then Some lines.PlanLine
    else if bytes_eq word (codes "cmd") then Some lines.CommandLine
    else if bytes_eq word (codes "step") then Some lines.StepLine
    else if bytes_eq word (codes "budget") then Some lines.BudgetLine
    else if bytes_eq word (codes "end") then Some lines.EndLine
    else None

-- the word that names a step
unfoldable pub step_name : List ℕ → Option StepName
step_name word =
    if bytes_eq word (codes "submit") then Some steps.Submit
    else if bytes_eq word (codes "send") then Some steps.Send
    else if bytes_eq word (codes "work") then Some steps.Work
    else if bytes_eq word (codes "due") then Some steps.Due
    else if bytes_eq word (codes "own") then Some steps.Own
    else if bytes_eq word (codes "settle") then Some steps.Settle
    else if bytes_eq word (codes "drop") then Some steps.Drop
    else if bytes_eq word (codes "abort") then Some steps.Abort
    else if bytes_eq word (codes "eh") then Some steps.Eh
    else if bytes_eq word (codes "tick") then Some steps.Tick
    else if bytes_eq word (codes "state") then Some steps.State
    else None

-- the word that names a step of recovery
unfoldable pub eh_name : List ℕ → Option EhName
eh_name word =
    if bytes_eq word (codes "begin") then Some recovery.Begin
    else if bytes_eq word (codes "act") then Some recovery.Act
    else if bytes_eq word (codes "flush") then Some recovery.Flush
    else if bytes_eq word (codes "end") then Some recovery.End
    else None

-- the word that names how a script ends
unfoldable pub end_name : List ℕ → Option EndName
end_name word =
    if bytes_eq word (codes "stop") then Some ends.Stop
    else if bytes_eq word (codes "drain") then Some ends.Drain
    else None

-- the word that names whom an attempt is given to
unfoldable pub owner : List ℕ → Option By
owner word =
    if bytes_eq word (codes "answer") then Some owners.Answer
    else if bytes_eq word (codes "expiry") then Some owners.Expiry
    else None

-- the word that names a fault of the timer, of an abort, of a reset, or of a probe
unfoldable pub recovery_kind : List ℕ → Option PlanKind
recovery_kind word =
    if bytes_eq word (codes "longer") then Some plans.Longer
    else if bytes_eq word (codes "timerdone") then Some plans.TimerDone
    else if bytes_eq word (codes "abortfail") then Some plans.AbortFail
    else if bytes_eq word (codes "rdev") then Some plans.Rdev
    else if bytes_eq word (codes "rtgt") then Some plans.Rtgt
    else if bytes_eq word (codes "rbus") then Some plans.Rbus
    else if bytes_eq word (codes "rhost") then Some plans.Rhost
    else if bytes_eq word (codes "silent") then Some plans.Silent
    else None

-- the word that names a planned fault
unfoldable pub plan_kind : List ℕ → Option PlanKind
plan_kind word =
    if bytes_eq word (codes "hostbusy") then Some plans.HostBusy
    else if bytes_eq word (codes "busy") then Some plans.Busy
    else if bytes_eq word (codes "latency") then Some plans.Latency
    else if bytes_eq word (codes "never") then Some plans.Never
    else if bytes_eq word (codes "check") then Some plans.Check
    else if bytes_eq word (codes "nosense") then Some plans.NoSense
    else if bytes_eq word (codes "raw") then Some plans.Raw
    else if bytes_eq word (codes "status") then Some plans.Status
    else recovery_kind word

-- the word that names a state of a device
unfoldable pub state : List ℕ → Option DeviceState
state word =
    if bytes_eq word (codes "running") then Some states.Running
    else if bytes_eq word (codes "quiesce") then Some states.Quiesce
    else if bytes_eq word (codes "block") then Some states.Block
    else if bytes_eq word (codes "offline") then Some states.Offline
    else if bytes_eq word (codes "cancel") then Some states.Cancel
    else if bytes_eq word (codes "del") then Some states.Del
    else None

-- whether a command is to fail at the first error
unfoldable pub failfast : List ℕ → Option Bool
failfast word =
    if bytes_eq word (codes "-") then Some false
    else if bytes_eq word (codes "failfast") then Some true
    else None
