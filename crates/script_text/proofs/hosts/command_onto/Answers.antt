use Rattle.script_text.specs.Said.{with_command}
use Rattle.script_text.proofs.Places.{changed}
use Rattle.script_text.proofs.hosts.command_onto.Goals as goal

pub returns : goal.returns
returns c = changed c.args.no.0 (with_command c.args.command) c.args.hosts.now c.in-Some.place c.index-hosts-place.result c.add_command.new.self (cc) c.in_ok-add_command.ensures
