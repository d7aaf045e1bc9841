use Rattle.std.proofs.Common.{◌∙◌, ap, refl}
use Rattle.tag_pool.specs.Pool.{Pool}
use Rattle.device_table.proofs.Entries.{keeps_host_busy, keeps_device_busy}
use Rattle.device_table.proofs.devices.Devices.bounce.Goals as goal

pub returns-in-Host : goal.returns-in-Host
returns-in-Host c = record {
  keeps = λ s P id n k of was alone lt.
      rw c.in-Host.is
      (keeps_host_busy s P c.args.self.now _ id c.args.place k of n c.args.tag was alone lt c.give.ensures.devices c.give.ensures.tags refl refl);
}

pub returns-in-Device : goal.returns-in-Device
returns-in-Device c = record {
  keeps = λ s P id n k of was alone lt.
      rw c.in-Device.is
      (keeps_device_busy s P c.args.self.now c.pause.new.self id c.args.place k of n c.args.tag was alone lt
      (ap (λ (p : Pool). p.devices) c.pause.ensures.pool ∙ c.give.ensures.devices) (ap (λ (p : Pool). p.tags) c.pause.ensures.pool ∙ c.give.ensures.tags)
      (c.pause.ensures.rows of.row of.row_at) c.pause.ensures.host);
}
