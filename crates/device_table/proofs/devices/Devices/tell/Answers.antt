use Rattle.std.proofs.Common.{refl}
use Rattle.device_table.proofs.Entries.{keeps_told}
use Rattle.device_table.proofs.devices.Devices.tell.Goals as goal

pub returns : goal.returns
returns c = record {
  keeps = λ s P id i n a k of was alone lt. keeps_told s P c.args.self.now _ id i k of n c.args.tag a was alone lt refl refl c.give.ensures.devices c.give.ensures.tags;
}
