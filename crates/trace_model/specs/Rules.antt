-- Which entry may stand after P where nothing is owed, and what it makes owed.
use Rattle.std.specs.Prelude.{◌≡◌, ℕ, Bool, true, false, not, ◌&&◌, ◌||◌, if◌then◌else◌, List, filter, Option, None, Some, nat_lt, ⊤}
use Rattle.mid_base.specs.declared.names.CmdId.{CmdId}
use Rattle.mid_base.specs.declared.names.Attempt.{Attempt}
use Rattle.mid_base.specs.declared.answers.Answer.{Answer}
use Rattle.mid_base.specs.declared.answers.Disp.{Disp}
use Rattle.mid_base.specs.declared.answers.Disp.TheVariants.{Success, Retry, Requeue, Fail}
use Rattle.mid_base.specs.declared.entries.Entry.{Entry}
use Rattle.mid_base.specs.declared.entries.Entry.TheVariants.{Took, Sent, Bounced, Ready, Due, Longer, DoneSaid, Owned, Late, Judged, AbortSet, Aborted, Failed, Again, Told, EhBegin, EhEnd, Act, State, Tick}
use Rattle.mid_base.specs.declared.host_spec.HostSpec.{HostSpec}
use Rattle.mid_base.specs.Address.{has_dev}
use Rattle.mid_base.specs.Answers.{no_connect, time_out}
use Rattle.trace_model.specs.Attempts.{answer, late}
use Rattle.device_states.specs.States.{may_become}
use Rattle.trace_model.specs.Devices.{state, is_online, has_begun}
use Rattle.trace_model.specs.Time.{may_ask, may_tick}
use Rattle.trace_model.specs.Sending.{may_take, is_refused, may_send, is_stranded, just_sent}
use Rattle.trace_model.specs.Judging.{may_own, to_judge, to_abort, has_abort_left, may_abort, may_retry, disp_of}
use Rattle.trace_model.specs.Recovery.{failed, todo, listed, may_begin, may_act, next_act}
use Rattle.disposition.specs.declared.todo.Todo.{Todo}
use Rattle.mid_base.specs.Levels.{not_online, number, level_of}
use Rattle.trace_model.specs.Course.{Course, over, next}
use Rattle.trace_model.specs.Climb.{climb, clear}
use Rattle.trace_model.specs.Flush.{is_flushed, is_saved, verdict, is_empty}

-- what c is told where no judgement or abort does: by Submit, by Send, by the flush
abbrev pub telling : HostSpec → List Entry → ℕ → Option Answer
telling s P c =
    if is_refused s P c || is_stranded s P c then Some no_connect
    else if is_flushed s P c && not (is_saved s P c) then verdict c P
    else None

-- the disposition of n's answer
abbrev pub MayJudge : HostSpec → List Entry → (c n : ℕ) → Disp → Option Answer → Type 0
MayJudge s P c n d None = ⊥
MayJudge s P c n d (Some a) = (to_judge P c n && not (has_begun P) ≡ true) × (d ≡ disp_of s P c a)

abbrev pub Allowed : HostSpec → List Entry → Entry → Type 0
Allowed s P (Took c) = may_take s P c.0 ≡ true
Allowed s P (Sent c n t) = may_send s P c.0 n.0 t.0 ≡ true
Allowed s P (Bounced c n why) = just_sent c.0 n.0 P ≡ true
Allowed s P (Ready n a) = ⊤
Allowed s P (Due n) = may_ask s P n.0 ≡ true
Allowed s P (Longer n) = may_ask s P n.0 ≡ true
Allowed s P (DoneSaid n) = may_ask s P n.0 ≡ true
Allowed s P (Owned n by) = may_own n.0 by P ≡ true
Allowed s P (Late n) = nat_lt 0 (late n.0 P) ≡ true
Allowed s P (Judged c n d) = MayJudge s P c.0 n.0 d (answer n.0 P)
Allowed s P (AbortSet c n) = to_abort P c.0 n.0 && has_abort_left s P c.0 ≡ true
Allowed s P (Aborted c n ok) = may_abort s P c.0 n.0 ok ≡ true
Allowed s P (Failed c n cancelled) = cancelled && to_abort P c.0 n.0 && not (has_abort_left s P c.0) ≡ true
Allowed s P (Again c counted) = counted && is_flushed s P c.0 && is_saved s P c.0 ≡ true
Allowed s P (Told c a) = telling s P c.0 ≡ Some a
Allowed s P EhBegin = may_begin s P ≡ true
Allowed s P EhEnd = has_begun P && is_empty (failed P) ≡ true
Allowed s P (Act level scope ok) = (may_act s P (level_of level) ok ≡ true) × (next_act s P ≡ Some (level, scope))
Allowed s P (State d x) = not (has_begun P) && has_dev s.luns d && may_become (state s d P) x ≡ true
Allowed s P Tick = may_tick s P ≡ true
Allowed s P e = ⊥

-- what follows a judgement
abbrev pub judged : CmdId → Attempt → Disp → Option Answer → Course
judged c n Success (Some a) = next (Told c a) over
judged c n Retry a = next (Again c true) over
judged c n Requeue a = next (Again c false) over
judged c n Fail a = next (Failed c n false) over
judged c n d a = over

-- what follows an abort
abbrev pub aborted : HostSpec → List Entry → CmdId → Attempt → Bool → Course
aborted s P c n true = next (if may_retry s P c.0 then Again c true else Told c time_out) over
aborted s P c n false = next (Failed c n true) over

-- its device isn't online
abbrev pub is_lost : HostSpec → List Entry → Todo → Bool
is_lost s P x = not (is_online s x.dev P)

-- what follows e at once, where e stands after P
abbrev pub course : HostSpec → List Entry → Entry → Course
course s P (Judged c n d) = judged c n d (answer n.0 P)
course s P (Aborted c n ok) = aborted s P c n ok
course s P EhBegin = clear (number not_online) (filter (is_lost s P) (listed s P))
course s P (Act level scope ok) = climb (todo s P) level scope ok
course s P e = over
