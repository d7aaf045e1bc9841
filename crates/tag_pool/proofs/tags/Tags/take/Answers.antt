use Rattle.std.proofs.Common.{arith, ◌≡◌, ◌∙◌, ap, ◌+◌, ◌≤◌, length}
use Rattle.tag_pool.specs.Tags.{Holders, all_out}
use Rattle.tag_pool.proofs.Held.{more_out}
use Rattle.tag_pool.proofs.tags.Tags.take.Goals as goal

pub overflow_add-self : goal.overflow_add-self
overflow_add-self c =
    let out : c.self.inside.out ≡ all_out c.args.self.now = c.self.invariant.2 ∙ ap (λ (xs : Holders). all_out xs) c.self.view_is in
    let long : length c.self.inside.holders.items ≡ length c.args.self.now = ap (λ (xs : Holders). length xs) c.self.view_is in
    omega (arith, out, long, c.self.invariant.0, c.self.inside.holders.ok.0, more_out c.args.self.now c.args.t c.args.dev c.requires.within c.requires.free)
