-- The table of verdicts has what the entries P, the newest first, say of each failed command: its last answer, and whether its last judgement was a success.
use Rattle.std.specs.Prelude.{◌≡◌, ℕ, ◌<◌, ◌≤◌, ◌==◌, Bool, true, false, not, ◌&&◌, if◌then◌else◌, List, map, filter, Option, None, option_map, length, vec_capacity}
use Rattle.std.specs.List.{All}
use Rattle.mid_base.specs.declared.answers.Answer.{Answer}
use Rattle.mid_base.specs.declared.answers.Disp.{Disp}
use Rattle.mid_base.specs.declared.bytes.SenseBytes.{SenseBytes}
use Rattle.mid_base.specs.declared.entries.Entry.{Entry}
use Rattle.mid_base.specs.declared.entries.Entry.TheVariants.{Took, Bounced, Due, Longer, DoneSaid, Late, AbortSet, Aborted, Cleared, EhBegin, EhEnd, Act, Probe, Offline, State, Tick}
use Rattle.mid_base.specs.declared.host_spec.HostSpec.{HostSpec}
use Rattle.mid_base.specs.declared.names.Attempt.{Attempt}
use Rattle.mid_base.specs.declared.names.CmdId.{CmdId}
use Rattle.mid_base.specs.Answers.{with_sense}
use Rattle.mid_base.specs.Past.{was_sent}
use Rattle.disposition.specs.Disp.{is_success}
use Rattle.trace_model.specs.Attempts.{is_open, is_settled, answer}
use Rattle.trace_model.specs.Commands.{judgement}
use Rattle.trace_model.specs.Flush.{was_success}
use Rattle.trace_model.specs.Recovery.{Failure, failed}
use Rattle.verdict_table.specs.Taken.{has_failed}
use Rattle.verdict_table.specs.declared.verdicts.FailedRow.{FailedRow}
use Rattle.verdict_table.specs.declared.verdicts.Verdicts.{Verdicts}

-- the last answer of attempt n, None where it was cancelled
abbrev pub last_answer : Bool → ℕ → List Entry → Option Answer
last_answer cancelled n P = if cancelled then None else answer n P

-- its last judgement was a success, which one that was cancelled has not
abbrev pub has_succeeded : Bool → ℕ → List Entry → Bool
has_succeeded cancelled n P = if cancelled then false else was_success (judgement n P)

-- what the end of recovery needs of a failed command
abbrev pub row_of : List Entry → Failure → FailedRow
row_of P f = record {
  command = f.cmd;
  attempt = f.attempt;
  cancelled = f.cancelled;
  answer = last_answer f.cancelled f.attempt.0 P;
  success = has_succeeded f.cancelled f.attempt.0 P;
}

-- its attempt was sent, is under way no longer, and is settled
abbrev pub IsShut : List Entry → Failure → Type 0
IsShut P f = (was_sent f.attempt.0 P ≡ true) × (is_open f.attempt.0 P ≡ false) × (is_settled f.attempt.0 P ≡ true)

pub record VerdictsAgree (s : HostSpec) (P : List Entry) (t : Verdicts) : Type 0 where
  pub rows : t.rows.items ≡ map (row_of P) (failed P)
  pub shut : All (IsShut P) (failed P)
  pub most : s.can_queue ≤ vec_capacity t.rows

-- room for one failed command more
abbrev pub HasRoom : Verdicts → Type 0
HasRoom t = length t.rows.items < vec_capacity t.rows

-- attempt n can fail with this answer: it is under way no longer, and no judgement of it was a success
pub record FailsWith (P : List Entry) (n : ℕ) (cancelled : Bool) (x : Option Answer) : Type 0 where
  pub sent : was_sent n P ≡ true
  pub shut : is_open n P ≡ false
  pub answer : x ≡ last_answer cancelled n P
  pub verdict : has_succeeded cancelled n P ≡ false

-- the rows without those of a command
abbrev pub without : CmdId → List FailedRow → List FailedRow
without c rows = filter (λ r. not (r.command.0 == c.0)) rows

-- a row where the sense data of attempt n was fetched
abbrev pub sensed : Attempt → SenseBytes → FailedRow → FailedRow
sensed n x r = if n.0 == r.attempt.0 then record r { answer = option_map (with_sense x) r.answer } else r

-- a row where attempt n was judged
abbrev pub judged : Attempt → Disp → FailedRow → FailedRow
judged n d r = if n.0 == r.attempt.0 then record r { success = not r.cancelled && is_success d } else r

-- the entries that say nothing of failed commands and of answers
abbrev pub IsApart : Entry → Type 0
IsApart (Took c) = Unit {0}
IsApart (Bounced c n why) = Unit {0}
IsApart (Due n) = Unit {0}
IsApart (Longer n) = Unit {0}
IsApart (DoneSaid n) = Unit {0}
IsApart (Late n) = Unit {0}
IsApart (AbortSet c n) = Unit {0}
IsApart (Aborted c n ok) = Unit {0}
IsApart (Cleared c level) = Unit {0}
IsApart EhBegin = Unit {0}
IsApart EhEnd = Unit {0}
IsApart (Act level scope ok) = Unit {0}
IsApart (Probe d op say) = Unit {0}
IsApart (Offline d) = Unit {0}
IsApart (State d x) = Unit {0}
IsApart Tick = Unit {0}
IsApart e = ⊥

-- the row's command has failed with its attempt, which was sent and is under way no longer
abbrev pub IsKept : List Entry → FailedRow → Type 0
IsKept P r = (has_failed r.command.0 r.attempt.0 (failed P) ≡ true) × (was_sent r.attempt.0 P ≡ true) × (is_open r.attempt.0 P ≡ false)
