use Rattle.std.proofs.Common.{rules, refl, ◌+◌}
use Rattle.host_words.specs.Seats.{view}
use Rattle.host_tests.proofs.Turns.{goes_nowhere, claimed_on, told_by}
use Rattle.host_tests.proofs.workers.claimed_all.Goals as goal

pub loop-i-init : goal.loop-i-init
loop-i-init c = ((search rules, goes_nowhere _ c.requires.seat.1), refl)

pub claim-claim-requires-clause-table : goal.claim-claim-requires-clause-table
claim-claim-requires-clause-table c = c.loop-i.invariant.0.0

pub claim-claim-requires-clause-cause : goal.claim-claim-requires-clause-cause
claim-claim-requires-clause-cause c = rw c.from.ensures (told_by (view c.args.seat.now).seen (view c.loop-i.seat).seen c.loop-i.i (record { 0 = c.loop-i.i + 1 }) c.args.by c.loop-i.invariant.1 (c.requires.told c.loop-i.i c.loop-i-test.true))

pub returns-then-is_err : goal.returns-then-is_err
returns-then-is_err c = (search rules, (claimed_on _ _ _ _ _ _ _ c.loop-i.invariant.0.1 c.loop-i.invariant.1 c.claim-claim.ensures.claim).0)

pub loop-i-preserved : goal.loop-i-preserved
loop-i-preserved c =
    let x = claimed_on _ _ _ _ _ _ _ c.loop-i.invariant.0.1 c.loop-i.invariant.1 c.claim-claim.ensures.claim in
    ((search rules, x.0), x.1)
