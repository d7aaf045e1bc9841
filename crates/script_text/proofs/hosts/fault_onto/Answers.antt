use Rattle.script_text.specs.Said.{with_planned}
use Rattle.script_text.proofs.Places.{changed}
use Rattle.script_text.proofs.hosts.fault_onto.Goals as goal

pub returns : goal.returns
returns c = changed c.args.no.0 (with_planned c.args.entry) c.args.hosts.now c.in-Some.place c.index-hosts-place.result c.add_planned.new.self (cc) c.in_ok-add_planned.ensures
