use Rattle.std.proofs.Common.{◌≡◌, ℕ, List, [], ◌∷◌, ◌++◌, map, max, take, sym, ap, ◌∙◌, arith}
use Rattle.std.proofs.lemmas.List.{take_more}
use Rattle.mid_base.specs.declared.faults.PlanEntry.{PlanEntry}
use Rattle.drain_rounds.specs.Bound.{latency_of}
use Rattle.drain_rounds.specs.Rounds.{greatest}
use Rattle.drain_rounds.proofs.Greatest.{greatest_push, max_swap}
use Rattle.drain_rounds.proofs.bound.longest_latency.Goals as goal

pub loop-entry-preserved : goal.loop-entry-preserved
loop-entry-preserved c =
    let plan = c.args.plan.now in
    let i = c.loop-entry.entry-index in
    let e = c.entry-item.result in
    let f = λ (e : PlanEntry). latency_of e.fault in
    c.max-longest.ensures
    ∙ (ap (λ (n : ℕ). max n c.loop-entry.longest) c.latency_of.ensures
    ∙ (ap (max (f e)) c.loop-entry.invariant
    ∙ (max_swap (f e) 1 (greatest (map f (take i plan)))
    ∙ (ap (max 1) (sym (greatest_push f (take i plan) e))
    ∙ ap (λ (es : List PlanEntry). max 1 (greatest (map f es))) (ap (λ (x : PlanEntry). take i plan ++ x ∷ []) c.entry-item.is ∙ sym (take_more plan i e c.loop-entry-test.true))))))
