use Rattle.std.proofs.Common.{◌∙◌}
use Rattle.adapter_tables.proofs.AddressLaws.{unit_devs_reset}
use Rattle.adapter_tables.proofs.units.reset_all.Goals as goal

pub invariant_of-table : goal.invariant_of-table
invariant_of-table c = record { aligned = unit_devs_reset c.args.scope c.args.table.now.units.items c.reset_rows.new.units.items c.reset_rows.ensures ∙ c.args.table.now.aligned }
