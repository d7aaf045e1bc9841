use Rattle.std.proofs.Common.{ap, ◌∙◌}
use Rattle.adapter_tables.specs.Addresses.{row_devs}
use Rattle.adapter_tables.proofs.AddressLaws.{row_devs_counted}
use Rattle.adapter_tables.proofs.numbering.count_in_scope.Goals as goal

pub invariant_of-table : goal.invariant_of-table
invariant_of-table c = record { aligned = ap row_devs c.count.ensures ∙ (row_devs_counted c.args.scope c.args.class c.args.table.now.rows.items ∙ c.args.table.now.aligned) }
