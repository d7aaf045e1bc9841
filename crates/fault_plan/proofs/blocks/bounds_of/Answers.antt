use Rattle.std.proofs.Common.{ℕ, max, ap, ◌∙◌, arith}
use Rattle.fault_plan.proofs.Between.{between_next, max_is}
use Rattle.fault_plan.proofs.blocks.bounds_of.Goals as goal

pub loop-entry-preserved : goal.loop-entry-preserved
loop-entry-preserved c =
    between_next c.args.lines.now c.loop-entry.entry-index c.entry-item.result c.loop-entry.least c.loop-entry.most c.min-least.result c.max-most.result (omega arith) c.entry-item.is (cc) (c.max-most.ensures ∙ (max_is c.loop-entry.most c.most_of.result ∙ ap (λ (n : ℕ). max c.loop-entry.most n) c.most_of.ensures)) c.loop-entry.invariant
