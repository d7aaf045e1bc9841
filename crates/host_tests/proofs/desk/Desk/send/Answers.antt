use Rattle.std.proofs.Common.{rules, arith, refl}
use Rattle.host_tests.proofs.Numbers.{next_is_new}
use Rattle.host_tests.proofs.Leaves.{sends, stays, has_sent}
use Rattle.host_tests.proofs.desk.Desk.send.Goals as goal

pub returns-in-Ok-clause-sends : goal.returns-in-Ok-clause-sends
returns-in-Ok-clause-sends c = record {
  free = search rules;
  fresh = next_is_new c.args.self.now.last _ _ _ refl c.args.self.now.bounded;
  small = omega arith;
  has = rw (c.set_tag.ensures.rest.1, c.in-Ok.ensures.ok) (has_sent _ _ _ _);
  may = rw (c.set_tag.ensures.rest.1, c.set_tag.ensures.set, c.in-Ok.ensures.ok, c.in-Ok.ensures.rest.1) (sends _ _ _ _ _);
}

pub returns-in-Err-clause-sends : goal.returns-in-Err-clause-sends
returns-in-Err-clause-sends c = rw (c.in-Err.ensures.err, c.in-Err.ensures.rest.1) (stays _ _)
