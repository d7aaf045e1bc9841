-- The words that stand for values of a few cases.
use Rattle.std.specs.Prelude.{ℕ, Bool, true, false, List, codes}
use Rattle.mid_base.specs.declared.answers.BusyOf.{BusyOf}
use Rattle.mid_base.specs.declared.answers.BusyOf.TheVariants as busy
use Rattle.mid_base.specs.declared.answers.By.{By}
use Rattle.mid_base.specs.declared.answers.By.TheVariants as by
use Rattle.mid_base.specs.declared.answers.Disp.{Disp}
use Rattle.mid_base.specs.declared.answers.Disp.TheVariants.{Success, Retry, Requeue, Fail}
use Rattle.mid_base.specs.declared.states.DeviceState.{DeviceState}
use Rattle.mid_base.specs.declared.states.DeviceState.TheVariants as states
use Rattle.mid_base.specs.declared.steps.Why.{Why}
use Rattle.mid_base.specs.declared.steps.Why.TheVariants as whys

abbrev pub busy_word : BusyOf → List ℕ
busy_word busy.Host = codes "host"
busy_word busy.Device = codes "device"

abbrev pub by_word : By → List ℕ
by_word by.Answer = codes "answer"
by_word by.Expiry = codes "expiry"

abbrev pub disp_word : Disp → List ℕ
disp_word Success = codes "success"
disp_word Retry = codes "retry"
disp_word Requeue = codes "requeue"
disp_word Fail = codes "fail"

-- whether an abort or an act succeeded
abbrev pub ok_word : Bool → List ℕ
ok_word true = codes "ok"
ok_word false = codes "failed"

-- how a command came on the failed list
abbrev pub failed_word : Bool → List ℕ
failed_word true = codes "cancelled"
failed_word false = codes "answered"

-- whether sending again counts as a retry
abbrev pub again_word : Bool → List ℕ
again_word true = codes "counted"
again_word false = codes "free"

abbrev pub state_word : DeviceState → List ℕ
state_word states.Created = codes "created"
state_word states.Running = codes "running"
state_word states.Quiesce = codes "quiesce"
state_word states.Block = codes "block"
state_word states.Offline = codes "offline"
state_word states.Cancel = codes "cancel"
state_word states.Del = codes "del"

abbrev pub why_word : Why → List ℕ
why_word whys.LaneDone = codes "lanedone"
why_word whys.Recovery = codes "recovery"
why_word whys.NoSend = codes "nosend"
why_word whys.Spent = codes "spent"
why_word whys.NoWork = codes "nowork"
why_word whys.NoDue = codes "nodue"
why_word whys.NotOpen = codes "notopen"
why_word whys.NotReady = codes "notready"
why_word whys.NotDue = codes "notdue"
why_word whys.NotOwned = codes "notowned"
why_word whys.NotLate = codes "notlate"
why_word whys.NoAbort = codes "noabort"
why_word whys.EhRunning = codes "ehrunning"
why_word whys.NoFailed = codes "nofailed"
why_word whys.NotQuiet = codes "notquiet"
why_word whys.EhIdle = codes "ehidle"
why_word whys.LadderDone = codes "ladderdone"
why_word whys.LadderOpen = codes "ladderopen"
why_word whys.FlushDone = codes "flushdone"
why_word whys.FlushLeft = codes "flushleft"
why_word whys.WorkDue = codes "workdue"
why_word whys.AnswerWaiting = codes "answerwaiting"
why_word whys.ExpiryWaiting = codes "expirywaiting"
why_word whys.Illegal = codes "illegal"
