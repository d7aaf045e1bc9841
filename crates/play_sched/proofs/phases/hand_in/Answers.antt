use Rattle.std.proofs.Common.{arith}
use Rattle.drain_rounds.specs.Rounds.{hand_in}
use Rattle.play_sched.proofs.Lanes.{lanes_done}
use Rattle.play_sched.proofs.Walk.{ends_named}
use Rattle.play_sched.proofs.phases.hand_in.Goals as goal

pub returns-clause-made : goal.returns-clause-made
returns-clause-made c =
    ends_named hand_in c.args.host.now c.loop-lane.host c.loop-lane.invariant.goes c.loop-lane.invariant.continues
    (lanes_done c.loop-lane.host (λ n lt. c.loop-lane.invariant.below n (omega (arith, lt, c.loop-lane-test.false))))
