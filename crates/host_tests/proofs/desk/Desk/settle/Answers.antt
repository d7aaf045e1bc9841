use Rattle.std.proofs.Common.{refl}
use Rattle.host_tests.proofs.Leaves.{settles, looked}
use Rattle.host_tests.proofs.desk.Desk.settle.Goals as goal

pub returns-in-Ok-clause-settles : goal.returns-in-Ok-clause-settles
returns-in-Ok-clause-settles c = (
  rw (c.set_tag.ensures.set, c.in-Ok.ensures.rest.1) refl,
  rw (c.set_tag.ensures.rest.1, c.set_tag.ensures.set, c.in-Ok.ensures.rest.1, c.in-Some.ensures) (settles _ _ c.args.t.0 c.in-Some.n c.in-Some.by _ c.in-Ok.ensures.ok),
)

pub returns-in-Err-clause-settles : goal.returns-in-Err-clause-settles
returns-in-Err-clause-settles c = (c.in-Err.ensures.rest.1, rw (c.in-Err.ensures.err, c.in-Err.ensures.rest.1) (looked _ _ _ _))
