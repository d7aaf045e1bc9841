use Rattle.std.proofs.Common.{subst}
use Rattle.escalation.specs.Climbing.{Climb}
use Rattle.escalation.specs.Acts.{IsClimbing}
use Rattle.escalation.proofs.ladder.Ladder.aborts.Goals as goal

pub returns-clause-climbing : goal.returns-clause-climbing
returns-clause-climbing c = subst (λ (k : Climb). IsClimbing k.left k.ahead) c.self.view_is c.self.invariant.1
