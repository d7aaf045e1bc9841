use Rattle.escalation.proofs.Moves.{wanted_is}
use Rattle.escalation.proofs.ladder.Ladder.wanted.Goals as goal

pub returns-clause-next : goal.returns-clause-next
returns-clause-next c = wanted_is c.args.self.now c.aborts.result c.left.result.now c.ahead.result.now c.first_wanted.result c.aborts.ensures.aborts c.left.ensures c.ahead.ensures c.first_wanted.ensures
