use Rattle.std.proofs.Common.{◌∙◌, sym, ap, ◌||◌, not, Bool}
use Rattle.device_table.specs.DevicesAgree.{takes}
use Rattle.device_table.proofs.Depths.{goes_is}
use Rattle.device_table.proofs.devices.Devices.goes.Goals as goal

pub returns-else-not-online-clause-goes : goal.returns-else-not-online-clause-goes
returns-else-not-online-clause-goes c s P d k dev =
    c.takes.ensures ∙ sym (ap (λ (b : Bool). not b || takes c.args.self.now c.row-row.result) (sym c.online.ensures ∙ c.if-not-online.false))
    ∙ goes_is s P c.args.self.now c.args.place d c.row-row.result k c.row-row.ensures dev
