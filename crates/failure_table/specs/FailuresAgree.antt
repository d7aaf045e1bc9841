-- The table of failures has what the entries P, the newest first, say of failed commands, scheduled aborts and recovery.
use Rattle.std.specs.Prelude.{◌≡◌, ℕ, ◌+◌, ◌<◌, ◌≤◌, ◌==◌, Bool, true, false, not, ◌&&◌, if◌then◌else◌, List, [], ◌∷◌, map, count_by, length}
use Rattle.std.specs.List.{list_any, list_all}
use Rattle.mid_base.specs.declared.names.CmdId.{CmdId}
use Rattle.mid_base.specs.declared.names.Attempt.{Attempt}
use Rattle.mid_base.specs.declared.entries.Entry.{Entry}
use Rattle.mid_base.specs.declared.entries.Entry.TheVariants.{Ready, Due, Longer, DoneSaid, Owned, Late, Judged, AbortSet, Aborted, Cleared, Sensed, Act, Probe, Offline, State, Tick}
use Rattle.mid_base.specs.declared.host_spec.HostSpec.{HostSpec}
use Rattle.mid_base.specs.Limits.{differ_in_id}
use Rattle.mid_base.specs.Past.{was_sent, sent_for}
use Rattle.trace_model.specs.Commands.{standing, is_busy, is_failed, aborts}
use Rattle.trace_model.specs.Counts.{busy_count}
use Rattle.trace_model.specs.Devices.{in_recovery, has_begun}
use Rattle.trace_model.specs.Recovery.{Failure, failed}
use Rattle.eh_queue.specs.Failures.{Failure as Queued, is_failed as is_queued}
use Rattle.failure_table.specs.declared.failures.Failures.{Failures}

-- an abort of c is scheduled, and wasn't tried yet
abbrev pub is_aborting : ℕ → List Entry → Bool
is_aborting c [] = false
is_aborting c (AbortSet d n ∷ P) = if d.0 == c then true else is_aborting c P
is_aborting c (Aborted d n ok ∷ P) = if d.0 == c then false else is_aborting c P
is_aborting c (_ ∷ P) = is_aborting c P

-- c is busy, and neither failed nor to be aborted
abbrev pub is_out : ℕ → List Entry → Bool
is_out c P = is_busy (standing c P) && not (is_failed c P) && not (is_aborting c P)

-- how many commands are
abbrev pub out_count : HostSpec → List Entry → ℕ
out_count s P = count_by (λ k. is_out k.id.0 P) s.cmds

-- c is a command of the host
abbrev pub knows : HostSpec → ℕ → Bool
knows s c = list_any (λ k. k.id.0 == c) s.cmds

-- a scheduled abort
abbrev pub Abort : Type 0
Abort = CmdId × Attempt

-- its attempt was sent for its command
abbrev pub is_for : List Entry → Abort → Bool
is_for P x = was_sent x.1.0 P && (sent_for x.1.0 P == x.0.0)

-- how often a command stands on the failed list, and how often it waits for its abort
abbrev pub failures_of : ℕ → List Queued → ℕ
failures_of c queued = count_by (λ f. f.0.0 == c) queued

abbrev pub aborts_of : ℕ → List Abort → ℕ
aborts_of c waiting = count_by (λ x. x.0.0 == c) waiting

abbrev pub once_if : Bool → ℕ
once_if b = if b then 1 else 0

-- a failed command as the journal's words have it
abbrev pub failure_of : Queued → Failure
failure_of f = record { cmd = f.0; attempt = f.1; cancelled = f.2 }

-- a command that is to be aborted is busy, hasn't failed, and is the host's
abbrev pub IsWaiting : HostSpec → List Entry → ℕ → Type 0
IsWaiting s P c = (is_busy (standing c P) ≡ true) × (is_failed c P ≡ false) × (knows s c ≡ true)

-- Of the busy commands each is out, to be aborted or failed: so many wait for their abort and are failed as have room.
pub record Says (s : HostSpec) (P : List Entry) (queued : List Queued) (busy : ℕ) (waiting : List Abort) : Type 0 where
  pub ids : differ_in_id s.cmds ≡ true
  pub failures : failed P ≡ map failure_of queued
  pub listed : (c : ℕ) → failures_of c queued ≡ once_if (is_failed c P)
  pub scheduled : aborts P ≡ map (λ x. x.1.0) waiting
  pub waits : (c : ℕ) → aborts_of c waiting ≡ once_if (is_aborting c P)
  pub attempts : list_all (is_for P) waiting ≡ true
  pub waiting_are : (c : ℕ) → is_aborting c P ≡ true → IsWaiting s P c
  pub busy_are : busy_count s P ≡ busy
  pub room : out_count s P + length waiting + length queued ≡ busy

pub record FailuresAgree (s : HostSpec) (P : List Entry) (t : Failures) : Type 0 where
  pub says : Says s P t.queue.failed t.queue.busy t.work.waiting
  pub recovery : in_recovery P ≡ t.recovering
  pub started : has_begun P ≡ t.begun
  pub failures_most : t.queue.most ≡ s.can_queue
  pub aborts_most : t.work.most ≡ s.can_queue
  pub few : t.queue.busy ≤ s.can_queue

-- room for one busy command more
abbrev pub CanSend : Failures → Type 0
CanSend t = t.queue.busy < t.queue.most

-- room for one scheduled abort more
abbrev pub CanSchedule : Failures → Type 0
CanSchedule t = length t.work.waiting < t.work.most

-- room for the command c on the failed list
abbrev pub CanFail : CmdId → Failures → Type 0
CanFail c t = (is_queued c t.queue.failed ≡ false) × (length t.queue.failed < t.queue.busy)

-- not all busy commands are failed where c isn't
abbrev pub CanEnd : CmdId → Failures → Type 0
CanEnd c t = is_queued c t.queue.failed ≡ false → length t.queue.failed < t.queue.busy

-- the entries that say nothing of failures
abbrev pub IsApart : Entry → Type 0
IsApart (Ready n a) = Unit {0}
IsApart (Due n) = Unit {0}
IsApart (Longer n) = Unit {0}
IsApart (DoneSaid n) = Unit {0}
IsApart (Owned n by) = Unit {0}
IsApart (Late n) = Unit {0}
IsApart (Judged c n d) = Unit {0}
IsApart (Cleared c level) = Unit {0}
IsApart (Sensed c n sense) = Unit {0}
IsApart (Act level scope ok) = Unit {0}
IsApart (Probe d op say) = Unit {0}
IsApart (Offline d) = Unit {0}
IsApart (State d x) = Unit {0}
IsApart Tick = Unit {0}
IsApart e = ⊥
