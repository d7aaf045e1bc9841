use Rattle.std.proofs.Common.{rules, arith, ◌<◌, ◌^◌}
use Rattle.host_words.specs.Seats.{view}
use Rattle.host_tests.specs.Turned.{IsTold}
use Rattle.host_tests.proofs.Turns.{on_and_on, told_more}
use Rattle.host_tests.proofs.workers.sent_all.Goals as goal

pub loop-i-preserved : goal.loop-i-preserved
loop-i-preserved g c =
    let back = c.sent_and_told.ensures.back in
    let told : (c.in-Some.n.0 < 2 ^ 60) × IsTold (view c.sent_and_told.new.seat).seen c.loop-i.i c.in-Some.n = search rules in
    ((search rules, on_and_on _ _ _ c.loop-i.invariant.0.1 back.1), told_more c.loop-i.i (view c.loop-i.seat).seen (view c.sent_and_told.new.seat).seen c.in-Some.n back.1.later c.loop-i.invariant.1 (search rules) told.1)

pub returns-clause-told : goal.returns-clause-told
returns-clause-told g c h i lt = let end = c.loop-i-test.false in c.loop-i.invariant.1 i (omega arith)
