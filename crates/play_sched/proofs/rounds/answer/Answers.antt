use Rattle.std.proofs.Common.{[], ◌∷◌}
use Rattle.mid_base.specs.declared.steps.Step.TheVariants.{Due, Send, Work}
use Rattle.drain_rounds.specs.Rounds.{alone, claim_answers, claim_expiries}
use Rattle.play_sched.proofs.Joined.{passes_last, passes_more}
use Rattle.play_sched.proofs.Walk.{goes_more}
use Rattle.play_sched.proofs.rounds.answer.Goals as goal

pub returns-clause-made : goal.returns-clause-made
returns-clause-made c =
    let h0 = c.args.host.now in
    let h1 = c.exhaust.new.host in
    let h2 = c.exhaust-2.new.host in
    let h3 = c.exhaust-3.new.host in
    let h4 = c.exhaust-4.new.host in
    let h5 = c.exhaust-5.new.host in
    let h6 = c.exhaust-6.new.host in
    let h7 = c.exhaust-7.new.host in
    passes_more (alone Send) ((alone Work) ∷ claim_answers ∷ (alone Due) ∷ (alone Work) ∷ claim_answers ∷ claim_expiries ∷ []) h0 h1 h7 c.in_ok-exhaust.ensures.goes c.in_ok-exhaust.ensures.made
    (passes_more (alone Work) (claim_answers ∷ (alone Due) ∷ (alone Work) ∷ claim_answers ∷ claim_expiries ∷ []) h1 h2 h7 c.in_ok-exhaust-2.ensures.goes c.in_ok-exhaust-2.ensures.made
    (passes_more claim_answers ((alone Due) ∷ (alone Work) ∷ claim_answers ∷ claim_expiries ∷ []) h2 h3 h7 c.in_ok-exhaust-3.ensures.goes c.in_ok-exhaust-3.ensures.made
    (passes_more (alone Due) ((alone Work) ∷ claim_answers ∷ claim_expiries ∷ []) h3 h4 h7 c.in_ok-exhaust-4.ensures.goes c.in_ok-exhaust-4.ensures.made
    (passes_more (alone Work) (claim_answers ∷ claim_expiries ∷ []) h4 h5 h7 c.in_ok-exhaust-5.ensures.goes c.in_ok-exhaust-5.ensures.made
    (passes_more claim_answers (claim_expiries ∷ []) h5 h6 h7 c.in_ok-exhaust-6.ensures.goes c.in_ok-exhaust-6.ensures.made
    (passes_last claim_expiries h6 h7 c.in_ok-exhaust-7.ensures.made))))))

pub returns-clause-goes : goal.returns-clause-goes
returns-clause-goes c =
    let h0 = c.args.host.now in
    let h1 = c.exhaust.new.host in
    let h2 = c.exhaust-2.new.host in
    let h3 = c.exhaust-3.new.host in
    let h4 = c.exhaust-4.new.host in
    let h5 = c.exhaust-5.new.host in
    let h6 = c.exhaust-6.new.host in
    let h7 = c.exhaust-7.new.host in
    goes_more h0 h6 h7 (goes_more h0 h5 h6 (goes_more h0 h4 h5 (goes_more h0 h3 h4 (goes_more h0 h2 h3 (goes_more h0 h1 h2 c.in_ok-exhaust.ensures.goes c.in_ok-exhaust-2.ensures.goes) c.in_ok-exhaust-3.ensures.goes) c.in_ok-exhaust-4.ensures.goes) c.in_ok-exhaust-5.ensures.goes) c.in_ok-exhaust-6.ensures.goes) c.in_ok-exhaust-7.ensures.goes
