use Rattle.command_table.proofs.Entries.{follows_apart}
use Rattle.command_table.proofs.laws.other_entries_change_no_command.Goals as goal

pub returns : goal.returns
returns c = follows_apart
