use Rattle.std.proofs.Common.{ap, sym, ◌∙◌}
use Rattle.adapter_tables.specs.Addresses.{row_devs}
use Rattle.adapter_tables.proofs.AddressLaws.{new_row_devs}
use Rattle.adapter_tables.proofs.device_tables.CountTable.new.Goals as goal

pub invariant_of-result : goal.invariant_of-result
invariant_of-result c = record { aligned = ap row_devs c.in_ok-rows.ensures ∙ (new_row_devs c.args.luns.now ∙ sym c.in_ok-at.ensures) }
