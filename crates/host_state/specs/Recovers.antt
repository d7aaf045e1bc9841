-- The failed command that recovery is done with.
use Rattle.std.specs.Prelude.{◌≡◌, true, List, Some}
use Rattle.mid_base.specs.declared.entries.Entry.{Entry}
use Rattle.mid_base.specs.declared.host_spec.HostSpec.{HostSpec}
use Rattle.mid_base.specs.declared.names.Attempt.{Attempt}
use Rattle.trace_model.specs.declared.standing.Standing.TheVariants.{Busy}
use Rattle.trace_model.specs.Commands.{standing, is_failed}
use Rattle.attempt_table.specs.declared.rows.Row.{Row}
use Rattle.attempt_table.specs.Rows.{row_of}
use Rattle.host_state.specs.declared.running.Running.{Running}
use Rattle.host_state.specs.HostAgrees.{HostAgrees}

-- the command of an attempt with this row has failed, and is busy with the attempt
abbrev pub IsFailedWith : List Entry → Attempt → Row → Type 0
IsFailedWith P n row = (standing row.command.0 P ≡ Busy n row.tag) × (is_failed row.command.0 P ≡ true)

-- in the running state of some journal, the attempt has this row, and its command has failed with it
pub record IsFailedRow (r : Running) (n : Attempt) (row : Row) : Type 0 where
  pub spec : HostSpec
  pub entries : List Entry
  pub runs : HostAgrees spec entries r
  pub at : row_of n.0 r.attempts.rows.items ≡ Some row
  pub failed : IsFailedWith entries n row
