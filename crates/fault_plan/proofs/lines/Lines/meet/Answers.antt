use Rattle.std.proofs.Common.{◌≡◌, ◌<◌, length, get_or, List, None, Some, sym, ap, subst, arith}
use Rattle.fault_plan.specs.declared.blocks.Block.{Block}
use Rattle.fault_plan.specs.Plan.{planned}
use Rattle.fault_plan.proofs.InBlocks.{first_block, none_further}
use Rattle.fault_plan.proofs.lines.Lines.meet.Goals as goal

pub returns-in-Some : goal.returns-in-Some
returns-in-Some c =
    let bs = c.args.self.now.blocks.items in
    let i = c.loop-block.block-index in
    let b = c.block-item.result in
    let item : b ≡ get_or bs i b = subst (λ (xs : List Block). b ≡ get_or xs i b) c.deref-block-items.ensures.value c.block-item.is in
    let lt : i < length bs = omega (arith, ap length c.deref-block-items.ensures.value) in
    let here : planned b.lines.items c.args.dev c.args.class c.args.nth ≡ Some c.in-Some.fault.now = sym c.in-Some.ensures in
    sym (first_block bs i b c.args.dev c.args.class c.args.nth c.in-Some.fault.now lt item c.loop-block.invariant here)

pub loop-block-preserved : goal.loop-block-preserved
loop-block-preserved c =
    let bs = c.args.self.now.blocks.items in
    let i = c.loop-block.block-index in
    let b = c.block-item.result in
    let item : b ≡ get_or bs i b = subst (λ (xs : List Block). b ≡ get_or xs i b) c.deref-block-items.ensures.value c.block-item.is in
    let lt : i < length bs = omega (arith, ap length c.deref-block-items.ensures.value) in
    let here : planned b.lines.items c.args.dev c.args.class c.args.nth ≡ None = sym c.in_default.ensures in
    none_further bs i b c.args.dev c.args.class c.args.nth lt item c.loop-block.invariant here
