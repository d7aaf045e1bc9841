use Rattle.std.proofs.Common.{Bool, not, sym, ap}
use Rattle.escalation.proofs.Cleared.{found_is, absent_is}
use Rattle.escalation.proofs.leaving.is_left.Goals as goal

pub returns-in-Ok : goal.returns-in-Ok
returns-in-Ok c = λ rise. sym (ap not (found_is c.args.cleared.now c.args.x.now.cmd.0 _ c.binary_search.result c.in-Ok.is c.binary_search.ensures.position rise))

pub returns-in-Err : goal.returns-in-Err
returns-in-Err c = λ rise. sym (ap not (absent_is c.args.cleared.now c.args.x.now.cmd.0 _ c.binary_search.result c.in-Err.is c.binary_search.ensures.position rise))
