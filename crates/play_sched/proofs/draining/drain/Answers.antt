use Rattle.std.proofs.Common.{ℕ, sym, subst, ◌∙◌, arith}
use Rattle.drain_rounds.specs.Rounds.{Drains}
use Rattle.play_sched.proofs.Joined.{follows_all, follows_drained, follows_more}
use Rattle.play_sched.proofs.Walk.{goes_more}
use Rattle.play_sched.proofs.draining.drain.Goals as goal

pub loop-preserved : goal.loop-preserved
loop-preserved c =
    let first = c.args.host.now in
    let now = c.loop.host in
    let new = c.round.new.host in
    let at = c.loop.invariant in
    record {
      goes = goes_more first now new at.goes c.in_ok-round.ensures.goes;
      rest = c.in_ok-round.ensures.rest;
      follows = follows_more c.loop.counter first now new at.goes at.follows (sym c.is_drained.ensures ∙ c.if-is_drained.false) c.in_ok-round.ensures.made;
    }

pub returns-then-is_drained-clause-drains : goal.returns-then-is_drained-clause-drains
returns-then-is_drained-clause-drains c =
    let at = c.loop.invariant in
    follows_drained c.loop.counter c.args.most c.args.host.now c.loop.host at.goes at.follows (omega (arith, c.loop-test.true)) (sym c.is_drained.ensures ∙ c.if-is_drained.true)

pub returns-clause-drains : goal.returns-clause-drains
returns-clause-drains c =
    let at = c.loop.invariant in
    subst (λ (n : ℕ). Drains n c.args.host.now.spec c.args.host.now.before c.args.host.now.entries c.loop.host.entries) (omega (arith, c.loop-test.false, c.loop.auto.counter-end)) (follows_all c.loop.counter c.args.host.now c.loop.host at.follows)
