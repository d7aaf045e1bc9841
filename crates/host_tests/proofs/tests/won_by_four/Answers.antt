use Rattle.std.proofs.Common.{rules, arith}
use Rattle.host_tests.proofs.tests.won_by_four.Goals as goal

pub ready_split-second-requires-clause-ready : goal.ready_split-second-requires-clause-ready
ready_split-second-requires-clause-ready g c = ((search rules, c.sent_all.ensures.back.1.away), omega (arith, c.in_ok-table.ensures.tags), c.in_ok-sent_all.ensures.told (search rules))
