use Rattle.std.proofs.Common.{sym, ◌∙◌}
use Rattle.adapter_tables.proofs.AddressLaws.{new_unit_devs}
use Rattle.adapter_tables.proofs.device_tables.UnitTable.new.Goals as goal

pub invariant_of-result : goal.invariant_of-result
invariant_of-result c = record { aligned = new_unit_devs c.args.luns.now c.args.luns.now c.in_ok-units.units.items c.in_ok-units.ensures ∙ sym c.in_ok-at.ensures }
