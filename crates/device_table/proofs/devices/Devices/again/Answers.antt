use Rattle.std.proofs.Common.{◌∙◌, ap, refl}
use Rattle.tag_pool.specs.Pool.{Pool}
use Rattle.device_table.proofs.Entries.{keeps_counted, keeps_free}
use Rattle.device_table.proofs.devices.Devices.again.Goals as goal

pub returns-then-not-counted : goal.returns-then-not-counted
returns-then-not-counted c = record {
  keeps = λ s P id n k of was alone lt.
      rw c.if-not-counted.true
      (keeps_free s P c.args.self.now c.pause.new.self id c.args.place k of n c.args.tag was alone lt
      (ap (λ (p : Pool). p.devices) c.pause.ensures.pool ∙ c.give.ensures.devices) (ap (λ (p : Pool). p.tags) c.pause.ensures.pool ∙ c.give.ensures.tags)
      (c.pause.ensures.rows of.row of.row_at) c.pause.ensures.host);
}

pub returns-else-not-counted : goal.returns-else-not-counted
returns-else-not-counted c = record {
  keeps = λ s P id n k of was alone lt.
      rw c.if-not-counted.false
      (keeps_counted s P c.args.self.now _ id c.args.place k of n c.args.tag was alone lt c.give.ensures.devices c.give.ensures.tags refl refl);
}
