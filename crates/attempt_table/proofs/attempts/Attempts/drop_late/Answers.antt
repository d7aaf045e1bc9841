use Rattle.std.proofs.Common.{arith}
use Rattle.attempt_table.proofs.Moves.{says_dropped}
use Rattle.attempt_table.proofs.attempts.Attempts.drop_late.Goals as goal

pub returns-clause-tells : goal.returns-clause-tells
returns-clause-tells c = λ s P tells.
    let t = c.args.self.now in (
      says_dropped s P t.rows.items t.tags.items t.kept.items t.claims.items t.lates.items tells.0 c.args.n c.drop_one.new.numbers.items c.drop_one.ensures.numbers,
      omega (arith, tells.1, c.drop_one.ensures.count, c.drop_one.ensures.capacity),
      tells.2,
      tells.3,
    )
