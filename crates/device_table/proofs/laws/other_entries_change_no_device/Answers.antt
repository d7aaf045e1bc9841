use Rattle.device_table.proofs.Entries.{keeps_apart}
use Rattle.device_table.proofs.laws.other_entries_change_no_device.Goals as goal

pub returns : goal.returns
returns c = keeps_apart
