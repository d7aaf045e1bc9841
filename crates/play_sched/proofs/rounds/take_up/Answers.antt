use Rattle.std.proofs.Common.{[], ◌∷◌}
use Rattle.drain_rounds.specs.Rounds.{hand_in, wake}
use Rattle.play_sched.proofs.Joined.{passes_last, passes_more}
use Rattle.play_sched.proofs.Walk.{goes_more}
use Rattle.play_sched.proofs.rounds.take_up.Goals as goal

pub returns-clause-made : goal.returns-clause-made
returns-clause-made c =
    let h0 = c.args.host.now in
    let h1 = c.wake_up.new.host in
    let h2 = c.hand_over.new.host in
    passes_more wake (hand_in ∷ []) h0 h1 h2 c.in_ok-wake_up.ensures.goes c.in_ok-wake_up.ensures.made
    (passes_last hand_in h1 h2 c.in_ok-hand_over.ensures.made)

pub returns-clause-goes : goal.returns-clause-goes
returns-clause-goes c = goes_more c.args.host.now c.wake_up.new.host c.hand_over.new.host c.in_ok-wake_up.ensures.goes c.in_ok-hand_over.ensures.goes
