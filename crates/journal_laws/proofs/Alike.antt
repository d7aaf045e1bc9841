-- The rules are the same without the vain answers, where the depths, the failed commands and the verdicts are.
use Rattle.std.proofs.Common.{◌≡◌, ℕ, ◌+◌, ◌*◌, ◌==◌, Bool, true, not, ◌&&◌, ◌||◌, if◌then◌else◌, List, None, Some, filter, find, count_by, nat_lt, nat_le}
use Rattle.std.specs.List.{list_any, list_all}
use Rattle.mid_base.specs.declared.names.DevAddr.{DevAddr}
use Rattle.mid_base.specs.declared.host_spec.CmdSpec.{CmdSpec}
use Rattle.mid_base.specs.declared.host_spec.HostSpec.{HostSpec}
use Rattle.mid_base.specs.declared.entries.Entry.{Entry}
use Rattle.mid_base.specs.Address.{same_dev}
use Rattle.mid_base.specs.Answers.{no_connect}
use Rattle.mid_base.specs.Levels.{abort, calls}
use Rattle.device_states.specs.States.{is_online_state, is_running, is_closed}
use Rattle.disposition.specs.declared.todo.Todo.{Todo}
use Rattle.disposition.specs.Ladder.{next_of}
use Rattle.trace_model.specs.Names.{command, dev_of}
use Rattle.trace_model.specs.Attempts.{is_by_answer, is_by_expiry}
use Rattle.trace_model.specs.Commands.{is_new, waits, is_busy, holds}
use Rattle.trace_model.specs.Devices.{is_online}
use Rattle.trace_model.specs.Time.{deadline, is_expired, is_before, may_ask}
use Rattle.trace_model.specs.Sending.{is_command, is_next_of_lane, may_take, is_refused, is_held, depths, is_ready, pick, is_number, all_below, may_send, is_stranded}
use Rattle.trace_model.specs.Judging.{may_retry, to_judge, to_abort, has_abort_left, is_first, may_abort}
use Rattle.trace_model.specs.Recovery.{Failure, is_quiet, listed, todo, next_act, may_begin}
use Rattle.trace_model.specs.Flush.{verdict, is_empty, is_first_failed, is_flushed, was_success, is_saved}
use Rattle.trace_model.specs.Rules.{telling}
use Rattle.journal_laws.specs.Vain.{without_vain}
use Rattle.journal_laws.proofs.Blind.{ticks_same, sent_for_same, attempt_of_same, attempts_same, sends_same, sent_at_same, is_open_same, owner_same, is_settled_same, longers_same, is_due_same, is_said_done_same, standing_same, taken_same, failed_since_sent_same, retries_same, judgement_same, has_abort_same, aborts_same, state_same, in_recovery_same, has_begun_same, host_paused_same, dev_paused_same, failed_same, is_cleared_same, last_act_same}

-- what hangs on answers
pub record Alike (s : HostSpec) (X P : List Entry) : Type 0 where
  pub depths_same : (d : DevAddr) → depths s d (without_vain X P) ≡ depths s d P
  pub listed_same : listed s (without_vain X P) ≡ listed s P
  pub verdict_same : (c : ℕ) → verdict c (without_vain X P) ≡ verdict c P

-- devices
pub online_same : (s : HostSpec) (X : List Entry) (d : DevAddr) (P : List Entry) → is_online s d (without_vain X P) ≡ is_online s d P
online_same s X d P = λ i. is_online_state (state_same X s d P i)

-- taking and sending
next_same : (s : HostSpec) (X : List Entry) (c : ℕ) (P : List Entry) → is_next_of_lane s (without_vain X P) c ≡ is_next_of_lane s P c
next_same s X c P = λ i. is_command c (find (λ (k : CmdSpec). (k.lane.0 == (command s c).lane.0) && is_new (standing_same X k.id.0 P i)) s.cmds)

pub take_same : (s : HostSpec) (X : List Entry) (c : ℕ) (P : List Entry) → may_take s (without_vain X P) c ≡ may_take s P c
take_same s X c P = λ i. next_same s X c P i && not (is_closed (state_same X s (dev_of s c) P i))

refused_same : (s : HostSpec) (X : List Entry) (c : ℕ) (P : List Entry) → is_refused s (without_vain X P) c ≡ is_refused s P c
refused_same s X c P = λ i. next_same s X c P i && is_closed (state_same X s (dev_of s c) P i)

held_same : (s : HostSpec) (X : List Entry) (t : ℕ) (P : List Entry) → is_held s (without_vain X P) t ≡ is_held s P t
held_same s X t P = λ i. list_any (λ (k : CmdSpec). holds t (standing_same X k.id.0 P i)) s.cmds

ready_same : (s : HostSpec) (X : List Entry) (d : DevAddr) (P : List Entry) → Alike s X P → is_ready s (without_vain X P) d ≡ is_ready s P d
ready_same s X d P h = λ i.
    is_running (state_same X s d P i) && not (host_paused_same X P i) && not (dev_paused_same X s d P i)
    && nat_lt (count_by (λ (k : CmdSpec). is_busy (standing_same X k.id.0 P i)) s.cmds) s.can_queue
    && nat_lt (count_by (λ (k : CmdSpec). same_dev k.dev d && is_busy (standing_same X k.id.0 P i)) s.cmds) (h.depths_same d i).0

pick_same : (s : HostSpec) (X P : List Entry) → Alike s X P → pick s (without_vain X P) ≡ pick s P
pick_same s X P h = λ i. find (λ (c : ℕ). waits (standing_same X c P i) && (not (online_same s X (dev_of s c) P i) || ready_same s X (dev_of s c) P h i)) (taken_same X P i)

pub send_same : (s : HostSpec) (X : List Entry) (c n t : ℕ) (P : List Entry) → Alike s X P → may_send s (without_vain X P) c n t ≡ may_send s P c n t
send_same s X c n t P h = λ i.
    not (in_recovery_same X P i) && is_number c (pick_same s X P h i) && online_same s X (dev_of s c) P i
    && (n == sends_same X P i + 1) && (not (held_same s X t P i) && all_below t (λ (u : ℕ). held_same s X u P i))

stranded_same : (s : HostSpec) (X : List Entry) (c : ℕ) (P : List Entry) → Alike s X P → is_stranded s (without_vain X P) c ≡ is_stranded s P c
stranded_same s X c P h = λ i. not (in_recovery_same X P i) && is_number c (pick_same s X P h i) && not (online_same s X (dev_of s c) P i)

-- deadlines
deadline_same : (s : HostSpec) (X : List Entry) (n : ℕ) (P : List Entry) → deadline s (without_vain X P) n ≡ deadline s P n
deadline_same s X n P = λ i. sent_at_same X n P i + (command s (sent_for_same X n P i)).timeout * (1 + longers_same X n P i)

pub expired_same : (s : HostSpec) (X : List Entry) (n : ℕ) (P : List Entry) → is_expired s (without_vain X P) n ≡ is_expired s P n
expired_same s X n P = λ i. is_open_same X n P i && nat_le (deadline_same s X n P i) (ticks_same X P i) && not (is_due_same X n P i) && not (is_said_done_same X n P i)

before_same : (s : HostSpec) (X : List Entry) (n m : ℕ) (P : List Entry) → is_before s (without_vain X P) n m ≡ is_before s P n m
before_same s X n m P = λ i. nat_lt (deadline_same s X n P i) (deadline_same s X m P i) || ((deadline_same s X n P i == deadline_same s X m P i) && nat_le n m)

pub ask_same : (s : HostSpec) (X : List Entry) (n : ℕ) (P : List Entry) → may_ask s (without_vain X P) n ≡ may_ask s P n
ask_same s X n P = λ i. expired_same s X n P i && list_all (λ (m : ℕ). not (expired_same s X m P i) || before_same s X n m P i) (attempts_same X P i)

-- what is made of an attempt
pub retry_same : (s : HostSpec) (X : List Entry) (c : ℕ) (P : List Entry) → may_retry s (without_vain X P) c ≡ may_retry s P c
retry_same s X c P = λ i. online_same s X (dev_of s c) P i && not (command s c).failfast && nat_lt (retries_same X c P i) (command s c).allowed

pub judge_same : (X : List Entry) (c n : ℕ) (P : List Entry) → to_judge (without_vain X P) c n ≡ to_judge P c n
judge_same X c n P = λ i. is_by_answer (owner_same X n P i) && not (is_settled_same X n P i) && (sent_for_same X n P i == c)

pub to_abort_same : (X : List Entry) (c n : ℕ) (P : List Entry) → to_abort (without_vain X P) c n ≡ to_abort P c n
to_abort_same X c n P = λ i. is_by_expiry (owner_same X n P i) && not (is_settled_same X n P i) && (sent_for_same X n P i == c)

pub left_same : (s : HostSpec) (X : List Entry) (c : ℕ) (P : List Entry) → has_abort_left s (without_vain X P) c ≡ has_abort_left s P c
left_same s X c P = λ i. not s.no_async_abort && not (has_abort_same X c P i) && nat_lt (retries_same X c P i) (command s c).allowed

pub abort_same : (s : HostSpec) (X : List Entry) (c n : ℕ) (ok : Bool) (P : List Entry) → may_abort s (without_vain X P) c n ok ≡ may_abort s P c n ok
abort_same s X c n ok P = λ i. is_first n (aborts_same X P i) && (sent_for_same X n P i == c) && (not ok || calls s.handlers abort)

-- recovery
pub todo_same : (s : HostSpec) (X P : List Entry) → Alike s X P → todo s (without_vain X P) ≡ todo s P
todo_same s X P h = λ i. filter (λ (x : Todo). not (is_cleared_same X x.cmd.0 P i)) (h.listed_same i)

pub quiet_same : (s : HostSpec) (X P : List Entry) → is_quiet s (without_vain X P) ≡ is_quiet s P
quiet_same s X P = λ i. list_all (λ (k : CmdSpec). not (is_busy (standing_same X k.id.0 P i)) || (is_busy (standing_same X k.id.0 P i) && failed_since_sent_same X k.id.0 P i)) s.cmds

pub begin_same : (s : HostSpec) (X P : List Entry) → may_begin s (without_vain X P) ≡ may_begin s P
begin_same s X P = λ i. quiet_same s X P i && not (has_begun_same X P i) && list_any (λ (f : Failure). true) (failed_same X P i)

pub act_next_same : (s : HostSpec) (X P : List Entry) → Alike s X P → next_act s (without_vain X P) ≡ next_act s P
act_next_same s X P h = λ i. next_of s.no_async_abort (last_act_same X P i) (h.listed_same i) (todo_same s X P h i)

pub flushed_same : (s : HostSpec) (X : List Entry) (c : ℕ) (P : List Entry) → Alike s X P → is_flushed s (without_vain X P) c ≡ is_flushed s P c
flushed_same s X c P h = λ i. has_begun_same X P i && is_empty (todo_same s X P h i) && is_first_failed c (failed_same X P i)

pub saved_same : (s : HostSpec) (X : List Entry) (c : ℕ) (P : List Entry) → is_saved s (without_vain X P) c ≡ is_saved s P c
saved_same s X c P = λ i. not (was_success (judgement_same X (attempt_of_same X c P i) P i)) && retry_same s X c P i

pub telling_same : (s : HostSpec) (X : List Entry) (c : ℕ) (P : List Entry) → Alike s X P → telling s (without_vain X P) c ≡ telling s P c
telling_same s X c P h = λ i.
    if refused_same s X c P i || stranded_same s X c P h i then Some no_connect
    else if flushed_same s X c P h i && not (saved_same s X c P i) then h.verdict_same c i
    else None
