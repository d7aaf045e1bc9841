use Rattle.script_text.specs.Said.{with_unit}
use Rattle.script_text.proofs.Places.{changed}
use Rattle.script_text.proofs.hosts.unit_onto.Goals as goal

pub returns : goal.returns
returns c = changed c.args.no.0 (with_unit c.args.unit) c.args.hosts.now c.in-Some.place c.index-hosts-place.result c.add_unit.new.self (cc) c.in_ok-add_unit.ensures
