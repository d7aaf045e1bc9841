use Rattle.std.proofs.Common.{◌≡◌, ◌∙◌, sym, ap, subst, List}
use Rattle.std.specs.Prelude.{Some, None}
use Rattle.std.specs.List.{position}
use Rattle.tag_pool.specs.Depths.{depth_in, is_at}
use Rattle.tag_pool.specs.Pool.{Pool}
use Rattle.tag_pool.specs.declared.depths.DeviceDepth.{DeviceDepth}
use Rattle.tag_pool.proofs.Lists.{depth_found, depth_missing}
use Rattle.tag_pool.proofs.pool.TagPool.depth.Goals as goal

pub returns-in-Some : goal.returns-in-Some
returns-in-Some c =
    let at : position (is_at c.args.dev) c.self.inside.devices.items ≡ Some c.in-Some.place =
    ap (λ (xs : List DeviceDepth). position (is_at c.args.dev) xs) (sym c.deref.ensures.value) ∙ sym c.place_of.ensures ∙ c.in-Some.is
    in
    subst (λ (v : Pool). c.index.result.now.depth ≡ depth_in c.args.dev v.devices) c.self.view_is
    (depth_found c.args.dev c.self.inside.devices.items c.in-Some.place c.index.result.now at c.index.ensures)

pub returns-in-None : goal.returns-in-None
returns-in-None c =
    let at : position (is_at c.args.dev) c.self.inside.devices.items ≡ None =
    ap (λ (xs : List DeviceDepth). position (is_at c.args.dev) xs) (sym c.deref.ensures.value) ∙ sym c.place_of.ensures ∙ c.in-None.is
    in
    subst (λ (v : Pool). 0 ≡ depth_in c.args.dev v.devices) c.self.view_is
    (depth_missing c.args.dev c.self.inside.devices.items at)
