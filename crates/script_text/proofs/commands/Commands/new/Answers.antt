use Rattle.script_text.proofs.Places.{no_lanes}
use Rattle.script_text.proofs.commands.Commands.new.Goals as goal

pub invariant_of-result : goal.invariant_of-result
invariant_of-result c = λ n below. rw c.new.ensures.items (no_lanes n below)
