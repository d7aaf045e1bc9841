use Rattle.std.proofs.Common.{◌<◌, inl, inr, sym, arith}
use Rattle.fault_plan.proofs.Between.{outside}
use Rattle.fault_plan.proofs.blocks.Block.meet.Goals as goal
use Rattle.fault_plan.proofs.blocks.Block.meet.Goals.{then-nth-self-via-then-nth-self, then-nth-self-via-else-nth-self+then-self-nth}

pub returns-then-nth-self : goal.returns-then-nth-self
returns-then-nth-self c =
    let b = c.args.self.now in
    elim c.then-nth-self.branch [
      | then-nth-self-via-then-nth-self w ↦
          let lt : c.args.nth < b.least = omega arith in
          sym (outside b.least b.most c.args.nth c.args.dev c.args.class b.lines.items b.within (inl lt))
      | then-nth-self-via-else-nth-self+then-self-nth w ↦
          let gt : b.most < c.args.nth = omega arith in
          sym (outside b.least b.most c.args.nth c.args.dev c.args.class b.lines.items b.within (inr gt))
    ]
