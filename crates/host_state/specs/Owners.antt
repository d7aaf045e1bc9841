-- What the queries of the running state say of attempts that have an owner, and of scheduled aborts.
use Rattle.std.specs.Prelude.{◌≡◌, true, List, Some, slice_get}
use Rattle.mid_base.specs.declared.names.Attempt.{Attempt}
use Rattle.mid_base.specs.declared.answers.By.TheVariants.{Answer as ByAnswer, Expiry as ByExpiry}
use Rattle.mid_base.specs.declared.entries.Entry.{Entry}
use Rattle.mid_base.specs.Past.{sent_for}
use Rattle.trace_model.specs.Commands.{aborts}
use Rattle.trace_model.specs.Judging.{is_first}
use Rattle.attempt_table.specs.Rows.{row_of, answer_in}
use Rattle.host_state.specs.declared.aborting.ScheduledAbort.{ScheduledAbort}
use Rattle.host_state.specs.declared.running.Running.{Running}
use Rattle.host_state.specs.declared.settling.Owned.{Owned}
use Rattle.host_state.specs.declared.settling.Owned.TheVariants.{Answered, Expired}
use Rattle.host_state.specs.HostAgrees.{IsOwnedBy}

-- what is told of the owner of attempt n
abbrev pub IsOwnedAs : Running → Attempt → Owned → Type 0
IsOwnedAs r n (Answered row a) = IsOwnedBy r n row ByAnswer × (answer_in r.attempts.kept.items (Some row) ≡ Some a)
IsOwnedAs r n (Expired row) = IsOwnedBy r n row ByExpiry

-- this is the first of the aborts that weren't tried yet
pub record IsFirstAbortOf (P : List Entry) (r : Running) (x : ScheduledAbort) : Type 0 where
  pub first : is_first x.attempt.0 (aborts P) ≡ true
  pub sent : sent_for x.attempt.0 P ≡ x.row.command.0
  pub waits : slice_get r.failures.work.waiting 0 ≡ Some (x.row.command, x.attempt)
  pub at : row_of x.attempt.0 r.attempts.rows.items ≡ Some x.row
