use Rattle.std.proofs.Common.{sym, ◌∙◌}
use Rattle.eh_probe.proofs.Testing.{tested_twice, stands_twice}
use Rattle.eh_probe.proofs.probes.ready.Goals as goal

pub returns-clause-test : goal.returns-clause-test
returns-clause-test g c =
    tested_twice c.test-say.result c.test-again.result c.sorted-first.result c.sorted.result c.said_good.result
    (sym c.is_doubtful.ensures ∙ c.if-not-is_doubtful.false) c.sorted-first.ensures c.sorted.ensures c.said_good.ensures

pub returns-clause-stands : goal.returns-clause-stands
returns-clause-stands g c =
    stands_twice (g.A.HostTemplate.stands c.args.lower.now) (g.A.HostTemplate.stands c.test-say.new.lower) (g.A.HostTemplate.stands c.test-again.new.lower) c.args.dev c.test-say.result c.test-again.result c.sorted-first.result c.sorted.result c.said_good.result
    c.sorted-first.ensures c.sorted.ensures c.test-say.ensures.stands c.test-again.ensures.stands
