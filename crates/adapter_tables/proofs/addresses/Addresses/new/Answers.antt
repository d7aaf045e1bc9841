use Rattle.std.proofs.Common.{ap, ◌∙◌}
use Rattle.adapter_tables.specs.Addresses.{are_apart}
use Rattle.adapter_tables.proofs.AddressLaws.{apart_luns}
use Rattle.adapter_tables.proofs.addresses.Addresses.new.Goals as goal

pub invariant_of-result : goal.invariant_of-result
invariant_of-result c = record { apart = ap are_apart c.in_ok-devs.ensures ∙ (apart_luns c.args.luns.now ∙ c.requires) }
