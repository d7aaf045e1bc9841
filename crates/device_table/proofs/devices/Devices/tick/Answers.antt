use Rattle.std.proofs.Common.{refl}
use Rattle.device_table.proofs.Entries.{keeps_ticked}
use Rattle.device_table.proofs.devices.Devices.tick.Goals as goal

pub returns : goal.returns
returns c = record { keeps = λ s P k. keeps_ticked s P c.args.self.now _ c.end_pauses.ensures refl refl k }
