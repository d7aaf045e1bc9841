use Rattle.host_tests.proofs.Entering.{owner_told, won_in}
use Rattle.host_tests.proofs.settling.claimed_and_settled.Goals as goal

pub returns-in-Ok-clause-ends : goal.returns-in-Ok-clause-ends
returns-in-Ok-clause-ends g c = owner_told _ _ c.args.t.0 c.args.n c.args.by c.in-Ok.field-0 c.in-Ok.ensures.tells (won_in _ _ c.args.t.0 c.args.n c.args.by c.in-Won.ensures.claim)
