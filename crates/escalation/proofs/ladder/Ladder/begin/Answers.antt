use Rattle.std.proofs.Common.{map, arith}
use Rattle.escalation.specs.Rungs.{pair_at}
use Rattle.escalation.proofs.Climbs.{begun_climbing}
use Rattle.escalation.proofs.ladder.Ladder.begin.Goals as goal

pub invariant_of-result : goal.invariant_of-result
invariant_of-result c = (omega arith, begun_climbing c.args.todo.items (map pair_at c.in_ok-rungs.rungs.items) c.in_ok-rungs.ensures)
