use Rattle.std.proofs.Common.{◌≡◌, ◌≤◌, ◌<◌, ◌+◌, ◌∙◌, ℕ, Bool, cond, length, map, refl, sym, ap, arith}
use Rattle.std.proofs.lemmas.Grind.{common_steps}
use Rattle.std.proofs.lemmas.List.{length-map}
use Rattle.escalation.specs.Rungs.{pair_at}
use Rattle.escalation.proofs.Passing.{last_from, map_drop, passed_beyond, passed_step, end_from}
use Rattle.escalation.proofs.wanting.passed.Goals.{then-same_rung, else-same_rung}
use Rattle.escalation.proofs.wanting.passed.Goals as goal

pub loop-place-preserved : goal.loop-place-preserved
loop-place-preserved c =
    let rs = c.args.ahead.now in
    let i = c.loop-place.place in
    let after = c.loop-place.behind in
    let lt : i < length rs = c.loop-place-test.true in
    elim c.if-same_rung.branch [
      | then-same_rung w ↦ record {
        ahead = passed_step c.args.rung.now rs i after _ _ _ c.same_rung.result lt c.same_rung.ensures (w.behind-is ∙ sym (ap (λ (b : Bool). cond b (i + 1) after) w.if-same_rung.true)) c.loop-place.invariant.ahead;
        within = omega (arith, w.behind-is, lt);
      }
      | else-same_rung w ↦ record {
        ahead = passed_step c.args.rung.now rs i after _ _ _ c.same_rung.result lt c.same_rung.ensures (w.behind-is ∙ sym (ap (λ (b : Bool). cond b (i + 1) after) w.if-same_rung.false)) c.loop-place.invariant.ahead;
        within = omega (arith, w.behind-is, c.loop-place.invariant.within);
      }
    ]

pub returns-clause-beyond : goal.returns-clause-beyond
returns-clause-beyond c =
    let rs = c.args.ahead.now in
    let p = pair_at c.args.rung.now in
    let past : length (map pair_at rs) ≤ c.loop-place.place = omega (arith, c.loop-place-test.false, length-map rs pair_at) in
    map_drop pair_at c.loop-place.behind rs
    ∙ passed_beyond p (map pair_at rs) c.loop-place.behind (length rs) (sym (length-map rs pair_at)) (sym (end_from p c.loop-place.place c.loop-place.behind (map pair_at rs) past) ∙ c.loop-place.invariant.ahead)
