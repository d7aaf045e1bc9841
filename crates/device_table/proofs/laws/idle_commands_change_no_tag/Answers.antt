use Rattle.device_table.proofs.Entries.{not_busy_took, not_busy_told}
use Rattle.device_table.proofs.laws.idle_commands_change_no_tag.Goals as goal

pub returns : goal.returns
returns c = record { took = not_busy_took; told = not_busy_told }
