use Rattle.escalation.proofs.Cleared.{no_sense}
use Rattle.escalation.proofs.leaving.take_told.Goals as goal

pub returns-else-tells_sense : goal.returns-else-tells_sense
returns-else-tells_sense c = no_sense c.args.entry.now (c.tells_sense.ensures c.if-tells_sense.false) c.args.left.now.items
