use Rattle.std.proofs.Common.{[], ◌∷◌}
use Rattle.mid_base.specs.declared.steps.Step.TheVariants.{Abort, EhAct, EhBegin, EhEnd, EhFlush, Drop, Settle}
use Rattle.drain_rounds.specs.Rounds.{alone, for_each}
use Rattle.play_sched.proofs.Joined.{passes_last, passes_more}
use Rattle.play_sched.proofs.Walk.{goes_more}
use Rattle.play_sched.proofs.rounds.recover.Goals as goal

pub returns-clause-made : goal.returns-clause-made
returns-clause-made c =
    let h0 = c.args.host.now in
    let h1 = c.exhaust.new.host in
    let h2 = c.exhaust-2.new.host in
    let h3 = c.exhaust-3.new.host in
    let h4 = c.exhaust-4.new.host in
    let h5 = c.exhaust-5.new.host in
    let h6 = c.exhaust-6.new.host in
    let h7 = c.exhaust-7.new.host in
    passes_more (for_each Settle) ((for_each Drop) ∷ (alone Abort) ∷ (alone EhBegin) ∷ (alone EhAct) ∷ (alone EhFlush) ∷ (alone EhEnd) ∷ []) h0 h1 h7 c.in_ok-exhaust.ensures.goes c.in_ok-exhaust.ensures.made
    (passes_more (for_each Drop) ((alone Abort) ∷ (alone EhBegin) ∷ (alone EhAct) ∷ (alone EhFlush) ∷ (alone EhEnd) ∷ []) h1 h2 h7 c.in_ok-exhaust-2.ensures.goes c.in_ok-exhaust-2.ensures.made
    (passes_more (alone Abort) ((alone EhBegin) ∷ (alone EhAct) ∷ (alone EhFlush) ∷ (alone EhEnd) ∷ []) h2 h3 h7 c.in_ok-exhaust-3.ensures.goes c.in_ok-exhaust-3.ensures.made
    (passes_more (alone EhBegin) ((alone EhAct) ∷ (alone EhFlush) ∷ (alone EhEnd) ∷ []) h3 h4 h7 c.in_ok-exhaust-4.ensures.goes c.in_ok-exhaust-4.ensures.made
    (passes_more (alone EhAct) ((alone EhFlush) ∷ (alone EhEnd) ∷ []) h4 h5 h7 c.in_ok-exhaust-5.ensures.goes c.in_ok-exhaust-5.ensures.made
    (passes_more (alone EhFlush) ((alone EhEnd) ∷ []) h5 h6 h7 c.in_ok-exhaust-6.ensures.goes c.in_ok-exhaust-6.ensures.made
    (passes_last (alone EhEnd) h6 h7 c.in_ok-exhaust-7.ensures.made))))))

pub returns-clause-goes : goal.returns-clause-goes
returns-clause-goes c =
    let h0 = c.args.host.now in
    let h1 = c.exhaust.new.host in
    let h2 = c.exhaust-2.new.host in
    let h3 = c.exhaust-3.new.host in
    let h4 = c.exhaust-4.new.host in
    let h5 = c.exhaust-5.new.host in
    let h6 = c.exhaust-6.new.host in
    let h7 = c.exhaust-7.new.host in
    goes_more h0 h6 h7 (goes_more h0 h5 h6 (goes_more h0 h4 h5 (goes_more h0 h3 h4 (goes_more h0 h2 h3 (goes_more h0 h1 h2 c.in_ok-exhaust.ensures.goes c.in_ok-exhaust-2.ensures.goes) c.in_ok-exhaust-3.ensures.goes) c.in_ok-exhaust-4.ensures.goes) c.in_ok-exhaust-5.ensures.goes) c.in_ok-exhaust-6.ensures.goes) c.in_ok-exhaust-7.ensures.goes
