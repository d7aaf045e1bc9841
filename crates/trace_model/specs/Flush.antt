-- The verdict on a trace, and the flush that ends recovery.
use Rattle.std.specs.Prelude.{ℕ, ◌==◌, Bool, true, false, not, ◌&&◌, if◌then◌else◌, List, [], ◌∷◌, Option, None, Some}
use Rattle.mid_base.specs.declared.answers.Answer.{Answer}
use Rattle.mid_base.specs.declared.answers.By.{By}
use Rattle.mid_base.specs.declared.answers.By.TheVariants.{Answer as ByAnswer, Expiry as ByExpiry}
use Rattle.mid_base.specs.declared.answers.Disp.{Disp}
use Rattle.mid_base.specs.declared.entries.Entry.{Entry}
use Rattle.mid_base.specs.declared.entries.Entry.TheVariants.{Took, Bounced, Judged, Aborted, Cleared, Again}
use Rattle.mid_base.specs.declared.host_spec.HostSpec.{HostSpec}
use Rattle.mid_base.specs.Past.{attempt_of}
use Rattle.mid_base.specs.Answers.{no_connect, time_out}
use Rattle.disposition.specs.Disp.{is_success}
use Rattle.trace_model.specs.Attempts.{answer, owner}
use Rattle.trace_model.specs.Commands.{judgement, is_own}
use Rattle.trace_model.specs.Devices.{has_begun}
use Rattle.trace_model.specs.Judging.{may_retry}
use Rattle.trace_model.specs.Recovery.{Failure, failed, todo}

abbrev pub by_owner : Option By → Option Answer → Option Answer
by_owner None a = None
by_owner (Some ByAnswer) a = a
by_owner (Some ByExpiry) a = Some time_out

abbrev pub last_own : ℕ → List Entry → Option Entry
last_own c [] = None
last_own c (e ∷ P) = if is_own c e then Some e else last_own c P

-- the verdict that the last own entry gives on attempt n
abbrev pub verdict_by : Option Entry → ℕ → List Entry → Option Answer
verdict_by None n P = Some no_connect
verdict_by (Some (Took c)) n P = Some no_connect
verdict_by (Some (Bounced c m why)) n P = Some no_connect
verdict_by (Some (Again c counted)) n P = Some no_connect
verdict_by (Some (Judged c m d)) n P = answer n P
verdict_by (Some (Aborted c m ok)) n P = Some time_out
verdict_by (Some (Cleared c level)) n P = by_owner (owner n P) (answer n P)
verdict_by (Some e) n P = None

abbrev pub verdict : ℕ → List Entry → Option Answer
verdict c P = verdict_by (last_own c P) (attempt_of c P) P

-- the first failed command may be flushed
abbrev pub is_empty : {A : Type 0} → List A → Bool
is_empty [] = true
is_empty (x ∷ xs) = false

abbrev pub is_first_failed : ℕ → List Failure → Bool
is_first_failed c [] = false
is_first_failed c (f ∷ fs) = f.cmd.0 == c

abbrev pub is_flushed : HostSpec → List Entry → ℕ → Bool
is_flushed s P c = has_begun P && is_empty (todo s P) && is_first_failed c (failed P)

abbrev pub was_success : Option Disp → Bool
was_success None = false
was_success (Some d) = is_success d

-- it goes again
abbrev pub is_saved : HostSpec → List Entry → ℕ → Bool
is_saved s P c = not (was_success (judgement (attempt_of c P) P)) && may_retry s P c
