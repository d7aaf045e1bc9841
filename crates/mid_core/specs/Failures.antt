-- The row of a failed command.
use Rattle.std.specs.Prelude.{◌≡◌, true, List}
use Rattle.mid_base.specs.declared.entries.Entry.{Entry}
use Rattle.mid_base.specs.declared.host_spec.HostSpec.{HostSpec}
use Rattle.trace_model.specs.Legal.{EachStands}
use Rattle.trace_model.specs.Recovery.{Failure, failed}
use Rattle.verdict_table.specs.declared.verdicts.FailedRow.{FailedRow}
use Rattle.verdict_table.specs.Taken.{has_failed}
use Rattle.verdict_table.specs.VerdictsAgree.{row_of}
use Rattle.host_state.specs.declared.running.Running.{Running}
use Rattle.host_state.specs.HostAgrees.{HostAgrees}

-- in the running state of a legal journal, this is kept of the failed command
pub record IsFailure (s : HostSpec) (P : List Entry) (r : Running) (f : Failure) (kept : FailedRow) : Type 0 where
  pub runs : HostAgrees s P r
  pub legal : EachStands s P
  pub on_list : has_failed f.cmd.0 f.attempt.0 (failed P) ≡ true
  pub row : kept ≡ row_of P f
