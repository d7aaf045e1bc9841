-- What a good line adds.
use Rattle.std.specs.Prelude.{ℕ, ◌+◌, true, false, Bool, List, [], ◌∷◌, ◌++◌, Option, Some, None, unwrap_or}
use Rattle.std.specs.List.{list_any}
use Rattle.std.specs.Ordering.{nat_cmp}
use Rattle.std.specs.BTreeSet.{insert_key}
use Rattle.mid_base.specs.declared.answers.By.TheVariants.{Answer}
use Rattle.mid_base.specs.declared.names.DevAddr.{DevAddr}
use Rattle.mid_base.specs.declared.names.HostNo.{HostNo}
use Rattle.mid_base.specs.declared.states.DeviceState.{DeviceState}
use Rattle.mid_base.specs.declared.states.DeviceState.TheVariants.{Created, Running}
use Rattle.mid_base.specs.declared.steps.Step.{Step}
use Rattle.mid_base.specs.declared.steps.Step.TheVariants as steps
use Rattle.mid_base.specs.declared.faults.Fault.{Fault}
use Rattle.mid_base.specs.declared.faults.Fault.TheVariants as faults
use Rattle.script_words.specs.declared.keywords.Keyword.{Keyword}
use Rattle.script_words.specs.declared.keywords.Keyword.TheVariants as lines
use Rattle.script_words.specs.declared.keywords.StepName.{StepName}
use Rattle.script_words.specs.declared.keywords.StepName.TheVariants as names
use Rattle.script_words.specs.declared.keywords.EhName.{EhName}
use Rattle.script_words.specs.declared.keywords.EhName.TheVariants as recovery
use Rattle.script_words.specs.declared.keywords.EndName.{EndName}
use Rattle.script_words.specs.declared.keywords.EndName.TheVariants as ends
use Rattle.script_words.specs.declared.plan_kinds.PlanKind.{PlanKind}
use Rattle.script_words.specs.declared.plan_kinds.PlanKind.TheVariants as plans
use Rattle.script_words.specs.Pieces.{value}
use Rattle.script_words.specs.Hex.{bytes_value, byte_value, half_value, cdb_of, sense_of}
use Rattle.script_words.specs.Words.{handlers_value, address_value}
use Rattle.script_words.specs.Keywords.{step_name, eh_name, end_name, plan_kind, owner, state, failfast}
use Rattle.script_text.specs.Said.{Said, on_host, with_unit, with_planned, with_command}
use Rattle.script_text.specs.Slots.{is_read_only, is_stopped, is_scan}

-- the step of recovery that has this name
unfoldable pub eh_step : EhName → Step
eh_step recovery.Begin = steps.EhBegin
eh_step recovery.Act = steps.EhAct
eh_step recovery.Flush = steps.EhFlush
eh_step recovery.End = steps.EhEnd

-- the step that these words name
abbrev pub step_of : Option StepName → List (List ℕ) → Step
step_of (Some names.Submit) (lane ∷ rest) = steps.Submit (record { 0 = value lane })
step_of (Some names.Send) rest = steps.Send
step_of (Some names.Work) rest = steps.Work
step_of (Some names.Due) rest = steps.Due
step_of (Some names.Own) (attempt ∷ name ∷ rest) = steps.Own (record { 0 = value attempt }) (unwrap_or (owner name) Answer)
step_of (Some names.Settle) (attempt ∷ rest) = steps.Settle (record { 0 = value attempt })
step_of (Some names.Drop) (attempt ∷ rest) = steps.Drop (record { 0 = value attempt })
step_of (Some names.Abort) rest = steps.Abort
step_of (Some names.Eh) (name ∷ rest) = eh_step (unwrap_or (eh_name name) recovery.Begin)
step_of (Some names.State) (unit ∷ name ∷ rest) = steps.SetState (address_value unit) (unwrap_or (state name) Running)
step_of _ _ = steps.Tick

abbrev pub step_in : List (List ℕ) → Step
step_in [] = steps.Tick
step_in (word ∷ rest) = step_of (step_name word) rest

-- the fault of this kind that is given these words
abbrev pub fault_of : PlanKind → List (List ℕ) → Fault
fault_of plans.HostBusy rest = faults.HostBusy
fault_of plans.Busy rest = faults.Busy
fault_of plans.Latency (ticks ∷ rest) = faults.Latency (value ticks)
fault_of plans.Check (key ∷ asc ∷ ascq ∷ rest) = faults.Check (half_value key) (byte_value asc) (byte_value ascq)
fault_of plans.NoSense (key ∷ asc ∷ ascq ∷ rest) = faults.NoSense (half_value key) (byte_value asc) (byte_value ascq)
fault_of plans.Raw (sense ∷ rest) = faults.Raw (sense_of (bytes_value sense))
fault_of plans.Status (host ∷ status ∷ rest) = faults.Status (record { 0 = byte_value host }) (byte_value status)
fault_of plans.Longer rest = faults.Longer
fault_of plans.TimerDone rest = faults.TimerDone
fault_of plans.AbortFail rest = faults.AbortFail
fault_of plans.Rdev rest = faults.Rdev
fault_of plans.Rtgt rest = faults.Rtgt
fault_of plans.Rbus rest = faults.Rbus
fault_of plans.Rhost rest = faults.Rhost
fault_of plans.Silent rest = faults.Silent
fault_of _ rest = faults.Never

abbrev pub some_fault_of : Option PlanKind → List (List ℕ) → Fault
some_fault_of None rest = faults.Never
some_fault_of (Some kind) rest = fault_of kind rest

-- whether the line has one more word
abbrev pub is_more : List (List ℕ) → Bool
is_more [] = false
is_more (word ∷ rest) = true

-- the byte that a write sends: none says zeros
abbrev pub fill_of : List (List ℕ) → ℕ
fill_of [] = 0
fill_of (word ∷ rest) = byte_value word

-- the hosts are run on behind the last step
abbrev pub is_drain : Option EndName → Bool
is_drain (Some ends.Drain) = true
is_drain _ = false

-- where a device starts: one that is found by scanning is in Created until it was looked for
abbrev pub start_state : Bool → DeviceState
start_state true = Created
start_state false = Running

-- one more device, if it is found by scanning
abbrev pub with_scan : Bool → HostNo × DevAddr → List (HostNo × DevAddr) → List (HostNo × DevAddr)
with_scan true d scans = scans ++ d ∷ []
with_scan false d scans = scans

-- what a good line adds
abbrev pub adds : Said → Keyword → List (List ℕ) → Said
adds said lines.HostLine (number ∷ can_queue ∷ callbacks ∷ rest) =
    record said {
      hosts = said.hosts ++ record { no = record { 0 = value number }; can_queue = value can_queue; handlers = handlers_value callbacks; no_async_abort = is_more rest; luns = []; cmds = []; plan = [] } ∷ [];
    }
adds said lines.LunLine (host ∷ unit ∷ blocks ∷ depth ∷ flags) =
    record said {
      hosts = on_host (value host) (with_unit (record {
        dev = address_value unit;
        blocks = value blocks;
        depth = value depth;
        read_only = list_any is_read_only flags;
        stopped = list_any is_stopped flags;
        start = start_state (list_any is_scan flags);
      })) said.hosts;
      scans = with_scan (list_any is_scan flags) (record { 0 = value host }, address_value unit) said.scans;
    }
adds said lines.PlanLine (host ∷ unit ∷ kind ∷ first ∷ every ∷ uses ∷ rest) =
    record said {
      hosts = on_host (value host) (with_planned (record {
        dev = address_value unit;
        fault = some_fault_of (plan_kind kind) rest;
        first = value first;
        every = value every;
        uses = value uses;
      })) said.hosts;
      plans = said.plans + 1;
    }
adds said lines.CommandLine (id ∷ host ∷ lane ∷ unit ∷ timeout ∷ allowed ∷ flag ∷ cdb ∷ rest) =
    record said {
      hosts = on_host (value host) (with_command (record {
        id = record { 0 = value id };
        lane = record { 0 = value lane };
        dev = address_value unit;
        cdb = cdb_of (bytes_value cdb);
        fill = fill_of rest;
        timeout = value timeout;
        allowed = value allowed;
        failfast = unwrap_or (failfast flag) false;
      })) said.hosts;
      ids = insert_key nat_cmp said.ids (value id);
    }
adds said lines.StepLine (host ∷ rest) = record said { steps = said.steps ++ (said.line, record { 0 = value host }, step_in rest) ∷ [] }
adds said lines.BudgetLine (rounds ∷ rest) = record said { budget = Some (value rounds) }
adds said lines.EndLine (name ∷ rest) = record said { ended = true; drain = is_drain (end_name name) }
adds said _ _ = said
