use Rattle.std.proofs.Common.{◌≡◌, ◌∙◌, sym, ap, subst, List, set, refl}
use Rattle.std.specs.Prelude.{Some, None}
use Rattle.std.specs.List.{position}
use Rattle.tag_pool.specs.Depths.{is_at, better, Changes}
use Rattle.tag_pool.specs.Pool.{Pool}
use Rattle.tag_pool.specs.declared.depths.DeviceDepth.{DeviceDepth}
use Rattle.tag_pool.proofs.Lists.{changed, unchanged}
use Rattle.tag_pool.proofs.pool.TagPool.good_seen.Goals as goal

pub returns-in-Some-clause-devices : goal.returns-in-Some-clause-devices
returns-in-Some-clause-devices c =
    let at : position (is_at c.args.dev) c.self.inside.devices.items ≡ Some c.in-Some.place =
    ap (λ (xs : List DeviceDepth). position (is_at c.args.dev) xs) (sym c.deref.ensures.value) ∙ sym c.place_of.ensures ∙ c.in-Some.is
    in
    subst (λ (v : Pool). Changes c.args.dev better v.devices (set c.self.inside.devices.items c.in-Some.place c.better.result)) c.self.view_is
    (changed c.args.dev better (λ x. refl) c.self.inside.devices.items c.in-Some.place c.index.result.now c.better.result at c.index.ensures c.better.ensures)

pub returns-in_default-clause-devices : goal.returns-in_default-clause-devices
returns-in_default-clause-devices c =
    let at : position (is_at c.args.dev) c.self.inside.devices.items ≡ None =
    ap (λ (xs : List DeviceDepth). position (is_at c.args.dev) xs) (sym c.deref.ensures.value) ∙ sym c.place_of.ensures ∙ c.in_default.is
    in
    subst (λ (v : Pool). Changes c.args.dev better v.devices v.devices) c.self.view_is
    (unchanged c.args.dev better c.self.inside.devices.items at)
