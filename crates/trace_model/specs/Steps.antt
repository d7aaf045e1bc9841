-- Which step an entry opens, what a step adds, and the first condition that bars a step.
use Rattle.std.specs.Prelude.{ℕ, ◌+◌, ◌==◌, Bool, true, false, not, ◌&&◌, ◌||◌, if◌then◌else◌, List, [], ◌∷◌, Option, None, Some, is_none, nat_lt, nat_le}
use Rattle.std.specs.List.{list_any}
use Rattle.mid_base.specs.declared.answers.By.{By}
use Rattle.mid_base.specs.declared.answers.By.TheVariants.{Answer as ByAnswer, Expiry as ByExpiry}
use Rattle.mid_base.specs.declared.entries.Entry.{Entry}
use Rattle.mid_base.specs.declared.entries.Entry.TheVariants.{Took, Sent, Bounced, Ready, Due, Longer, DoneSaid, Owned, Late, Judged, AbortSet, Aborted, Failed, Again, Told, EhBegin, EhEnd, Act, State, Tick}
use Rattle.mid_base.specs.declared.steps.Step.{Step}
use Rattle.mid_base.specs.declared.steps.Step.TheVariants.{Submit, Send, Work, Due as AskDue, Own, Settle, Drop, Abort, EhBegin as Begin, EhAct, EhFlush, EhEnd as End, Tick as GoOn, SetState}
use Rattle.mid_base.specs.declared.steps.Why.{Why}
use Rattle.mid_base.specs.declared.steps.Why.TheVariants.{LaneDone, Recovery, NoSend, Spent, NoWork, NoDue, NotOpen, NotReady, NotDue, NotOwned, NotLate, NoAbort, EhRunning, NoFailed, NotQuiet, EhIdle, LadderDone, LadderOpen, FlushDone, FlushLeft, WorkDue, AnswerWaiting, ExpiryWaiting, Illegal}
use Rattle.mid_base.specs.declared.host_spec.HostSpec.{HostSpec}
use Rattle.mid_base.specs.Address.{same_dev, has_dev}
use Rattle.mid_base.specs.Past.{ticks}
use Rattle.mid_base.specs.Limits.{last_number}
use Rattle.trace_model.specs.Names.{command, dev_of}
use Rattle.trace_model.specs.Attempts.{sends, attempts, answered, is_open, is_answered, late, owner, is_settled, is_due}
use Rattle.trace_model.specs.Commands.{aborts}
use Rattle.device_states.specs.States.{same_state, may_become}
use Rattle.trace_model.specs.Devices.{state, is_online, in_recovery, has_begun}
use Rattle.trace_model.specs.Time.{is_expired}
use Rattle.trace_model.specs.Sending.{next_of_lane, is_refused, is_stranded, pick}
use Rattle.trace_model.specs.Recovery.{is_quiet, failed, todo}
use Rattle.trace_model.specs.Flush.{is_empty, is_flushed}
use Rattle.trace_model.specs.Legal.{Group}

abbrev pub same_owner : By → By → Bool
same_owner ByAnswer ByAnswer = true
same_owner ByExpiry ByExpiry = true
same_owner _ _ = false

-- e is an opener of the step after P
abbrev pub opens : HostSpec → List Entry → Step → Entry → Bool
opens s P (Submit lane) (Took c) = (command s c.0).lane.0 == lane.0
opens s P (Submit lane) (Told c a) = ((command s c.0).lane.0 == lane.0) && is_refused s P c.0
opens s P Send (Sent c n t) = true
opens s P Send (Told c a) = is_stranded s P c.0
opens s P Work (Ready n a) = true
opens s P AskDue (Due n) = true
opens s P AskDue (Longer n) = true
opens s P AskDue (DoneSaid n) = true
opens s P (Own n by) (Owned m who) = (m.0 == n.0) && same_owner who by
opens s P (Settle n) (Judged c m d) = m.0 == n.0
opens s P (Settle n) (AbortSet c m) = m.0 == n.0
opens s P (Settle n) (Failed c m x) = m.0 == n.0
opens s P (Drop n) (Late m) = m.0 == n.0
opens s P Abort (Aborted c n ok) = true
opens s P Begin EhBegin = true
opens s P EhAct (Act level scope ok) = true
opens s P EhFlush (Again c counted) = true
opens s P EhFlush (Told c a) = is_flushed s P c.0
opens s P End EhEnd = true
opens s P GoOn Tick = true
opens s P (SetState d x) (State e y) = same_dev e d && same_state y x
opens s P step e = false

-- a step adds a group; Send may add the Bounced of its Sent besides
abbrev pub IsAdded : HostSpec → List Entry → List Entry → Type 0
IsAdded s P (Sent c n t ∷ Bounced d m why ∷ []) = Group s P (Sent c n t ∷ []) × Group s (Sent c n t ∷ P) (Bounced d m why ∷ [])
IsAdded s P g = Group s P g

abbrev pub first_why : List (Bool × Why) → Option Why
first_why [] = None
first_why (b ∷ bs) = if b.0 then Some b.1 else first_why bs

-- the command that Send would pick is on an online device
abbrev pub would_send : HostSpec → List Entry → Option ℕ → Bool
would_send s P None = false
would_send s P (Some c) = is_online s (dev_of s c) P

-- the first condition that bars a step, where `due` says whether the lower layer has an answer
abbrev pub barred : HostSpec → Bool → List Entry → Step → Option Why
barred s due P (Submit lane) = first_why ((is_none (next_of_lane s P lane.0), LaneDone) ∷ [])
barred s due P Send = first_why ((in_recovery P, Recovery) ∷ (is_none (pick s P), NoSend) ∷ (would_send s P (pick s P) && nat_le last_number (sends P + 1), Spent) ∷ [])
barred s due P Work = first_why ((not due, NoWork) ∷ [])
barred s due P AskDue = first_why ((not (list_any (is_expired s P) (attempts P)), NoDue) ∷ [])
barred s due P (Own n ByAnswer) = first_why ((not (is_open n.0 P), NotOpen) ∷ (not (is_answered n.0 P), NotReady) ∷ [])
barred s due P (Own n ByExpiry) = first_why ((not (is_open n.0 P), NotOpen) ∷ (not (is_due n.0 P), NotDue) ∷ [])
barred s due P (Settle n) = first_why ((is_none (owner n.0 P) || is_settled n.0 P, NotOwned) ∷ [])
barred s due P (Drop n) = first_why ((late n.0 P == 0, NotLate) ∷ [])
barred s due P Abort = first_why ((is_empty (aborts P), NoAbort) ∷ [])
barred s due P Begin = first_why ((has_begun P, EhRunning) ∷ (is_empty (failed P), NoFailed) ∷ (not (is_quiet s P), NotQuiet) ∷ [])
barred s due P EhAct = first_why ((not (has_begun P), EhIdle) ∷ (is_empty (todo s P), LadderDone) ∷ [])
barred s due P EhFlush = first_why ((not (has_begun P), EhIdle) ∷ (not (is_empty (todo s P)), LadderOpen) ∷ (is_empty (failed P), FlushDone) ∷ [])
barred s due P End = first_why ((not (has_begun P), EhIdle) ∷ (not (is_empty (todo s P)), LadderOpen) ∷ (not (is_empty (failed P)), FlushLeft) ∷ [])
barred s due P GoOn = first_why (
    (due, WorkDue)
    ∷ (list_any (λ n. is_open n P && is_answered n P) (attempts P) || list_any (λ n. nat_lt 0 (late n P)) (answered P), AnswerWaiting)
    ∷ (list_any (λ n. is_expired s P n || (is_open n P && is_due n P)) (attempts P), ExpiryWaiting)
    ∷ (nat_le last_number (ticks P), Spent) ∷ [])
barred s due P (SetState d x) = first_why ((has_begun P, EhRunning) ∷ (not (has_dev s.luns d && may_become (state s d P) x), Illegal) ∷ [])
