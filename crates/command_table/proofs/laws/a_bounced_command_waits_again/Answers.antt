use Rattle.command_table.proofs.Entries.{follows_bounced}
use Rattle.command_table.proofs.laws.a_bounced_command_waits_again.Goals as goal

pub returns : goal.returns
returns c = follows_bounced
