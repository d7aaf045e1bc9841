-- What the steps of recovery tell. P has the newest entry first.
use Rattle.std.specs.Prelude.{◌≡◌, true, not, List, map, filter, Some, slice_get}
use Rattle.mid_base.specs.declared.entries.Entry.{Entry}
use Rattle.mid_base.specs.declared.entries.Entry.TheVariants.{Cleared, Again, Told}
use Rattle.mid_base.specs.declared.host_spec.HostSpec.{HostSpec}
use Rattle.mid_base.specs.declared.names.CmdId.{CmdId}
use Rattle.mid_base.specs.Levels.{not_online, number}
use Rattle.disposition.specs.declared.todo.Todo.{Todo}
use Rattle.done_flush.specs.Verdict.{flush}
use Rattle.done_flush.specs.declared.flush.Flush.{Flush}
use Rattle.done_flush.specs.declared.flush.Flush.TheVariants as flushed
use Rattle.trace_model.specs.Commands.{retries}
use Rattle.trace_model.specs.Devices.{state}
use Rattle.trace_model.specs.Legal.{EachStands}
use Rattle.trace_model.specs.Names.{command, dev_of}
use Rattle.verdict_table.specs.declared.verdicts.FailedRow.{FailedRow}
use Rattle.host_state.specs.declared.running.Running.{Running}
use Rattle.host_state.specs.HostAgrees.{HostAgrees}

-- those whose device isn't online are cleared
abbrev pub lost_of : List Todo → List Entry
lost_of xs = map (λ x. Cleared x.cmd (number not_online)) (filter (λ x. not x.cx.online) xs)

-- in the running state of a legal journal, this command failed first
pub record IsFirstFailed (s : HostSpec) (r : Running) (failed : FailedRow) : Type 0 where
  pub entries : List Entry
  pub runs : HostAgrees s entries r
  pub legal : EachStands s entries
  pub first : slice_get r.verdicts.rows.items 0 ≡ Some failed

-- what comes of a command that recovery is done with
abbrev pub entry_of : CmdId → Flush → Entry
entry_of c flushed.Again = Again c true
entry_of c (flushed.Told a) = Told c a

abbrev pub flushed_entry : HostSpec → List Entry → FailedRow → Entry
flushed_entry s P failed =
    entry_of failed.command
    (flush (command s failed.command.0) (retries failed.command.0 P) (state s (dev_of s failed.command.0) P) failed.answer failed.success)
