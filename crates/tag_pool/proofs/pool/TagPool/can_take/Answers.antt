use Rattle.std.proofs.Common.{◌≡◌, ◌∙◌, sym, ap, subst, List, arith, false}
use Rattle.std.specs.Prelude.{Some, None, nat_lt}
use Rattle.std.specs.List.{position}
use Rattle.std.proofs.lemmas.Bool.Decides.{nat_tests}
use Rattle.tag_pool.specs.Depths.{is_at, depth_in}
use Rattle.tag_pool.specs.Pool.{Pool}
use Rattle.tag_pool.specs.Tags.{has_room}
use Rattle.tag_pool.specs.declared.depths.DeviceDepth.{DeviceDepth}
use Rattle.tag_pool.proofs.Held.{counted_read, room, no_room}
use Rattle.tag_pool.proofs.Lists.{depth_found, depth_missing}
use Rattle.tag_pool.proofs.pool.TagPool.can_take.Goals as goal

pub returns-then-one_is_free : goal.returns-then-one_is_free
returns-then-one_is_free c =
    let at : position (is_at c.args.dev) c.self.inside.devices.items ≡ Some c.in-Some.place =
    ap (λ (xs : List DeviceDepth). position (is_at c.args.dev) xs) (sym c.deref.ensures.value) ∙ sym c.place_of.ensures ∙ c.in-Some.is
    in
    subst (λ (v : Pool). nat_lt c.index.result.now c.index-then-one_is_free.result.now.depth ≡ has_room v.tags c.args.dev (depth_in c.args.dev v.devices)) c.self.view_is
    (room c.self.inside.tags c.args.dev (depth_in c.args.dev c.self.inside.devices.items) c.all_out.result c.count.result c.index.result.now c.index-then-one_is_free.result.now.depth
    c.all_out.ensures c.count.ensures (grind (arith, nat_tests, c.if-one_is_free.true))
    (counted_read c.self.inside.tags c.self.inside.devices.items c.self.inside.counts.items c.args.dev c.index-then-one_is_free.result.now c.in-Some.place c.index.result.now c.self.invariant.1 at c.index.ensures)
    (depth_found c.args.dev c.self.inside.devices.items c.in-Some.place c.index-then-one_is_free.result.now at c.index-then-one_is_free.ensures))

pub returns-in-None : goal.returns-in-None
returns-in-None c =
    let at : position (is_at c.args.dev) c.self.inside.devices.items ≡ None =
    ap (λ (xs : List DeviceDepth). position (is_at c.args.dev) xs) (sym c.deref.ensures.value) ∙ sym c.place_of.ensures ∙ c.in-None.is
    in
    subst (λ (v : Pool). false ≡ has_room v.tags c.args.dev (depth_in c.args.dev v.devices)) c.self.view_is
    (no_room c.self.inside.tags c.args.dev (depth_in c.args.dev c.self.inside.devices.items) (depth_missing c.args.dev c.self.inside.devices.items at))
