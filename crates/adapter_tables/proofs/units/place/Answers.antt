use Rattle.adapter_tables.proofs.AddressLaws.{place_is}
use Rattle.adapter_tables.proofs.units.place.Goals as goal

pub returns : goal.returns
returns c = place_is c.args.units.now.units.items c.args.units.now.at.devs.items c.args.dev c.find.result c.args.units.now.at.apart c.args.units.now.aligned c.find.ensures
