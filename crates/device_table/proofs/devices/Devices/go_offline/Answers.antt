use Rattle.std.proofs.Common.{◌≡◌, refl}
use Rattle.device_table.proofs.Entries.{dev_row, keeps_offline}
use Rattle.device_table.proofs.devices.Devices.go_offline.Goals as goal

pub returns : goal.returns
returns c = record {
  keeps = λ s P d dev k.
      let there = dev_row c.args.self.now.rows.items c.args.place d dev in
      rw (← there.2)
      (keeps_offline s P c.args.self.now _ c.args.place there.0 there.1 (c.write_state.ensures.rows there.0 there.1) c.write_state.ensures.paused c.write_state.ensures.pool k);
}
