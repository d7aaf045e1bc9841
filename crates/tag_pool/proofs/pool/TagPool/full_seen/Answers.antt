use Rattle.std.proofs.Common.{◌≡◌, ◌∙◌, sym, ap, subst, List, set, refl, ℕ}
use Rattle.std.specs.Prelude.{Some, None}
use Rattle.std.specs.List.{position}
use Rattle.tag_pool.specs.Depths.{is_at, fuller, Changes}
use Rattle.tag_pool.specs.Pool.{Pool}
use Rattle.tag_pool.specs.Tags.{out_of}
use Rattle.tag_pool.specs.declared.depths.DeviceDepth.{DeviceDepth}
use Rattle.tag_pool.proofs.Held.{counted_read}
use Rattle.tag_pool.proofs.Lists.{changed, unchanged}
use Rattle.tag_pool.proofs.pool.TagPool.full_seen.Goals as goal

pub returns-in-Some-clause-devices : goal.returns-in-Some-clause-devices
returns-in-Some-clause-devices c =
    let at : position (is_at c.args.dev) c.self.inside.devices.items ≡ Some c.in-Some.place =
    ap (λ (xs : List DeviceDepth). position (is_at c.args.dev) xs) (sym c.deref.ensures.value) ∙ sym c.place_of.ensures ∙ c.in-Some.is
    in
    let out : c.index-in-Some.result.now ≡ out_of c.args.dev c.self.inside.tags =
    counted_read c.self.inside.tags c.self.inside.devices.items c.self.inside.counts.items c.args.dev c.index.result.now c.in-Some.place c.index-in-Some.result.now c.self.invariant.1 at c.index-in-Some.ensures
    in
    let becomes : c.fuller.result ≡ fuller (out_of c.args.dev c.self.inside.tags) c.index.result.now =
    c.fuller.ensures ∙ ap (λ (n : ℕ). fuller n c.index.result.now) out
    in
    subst (λ (v : Pool). Changes c.args.dev (fuller (out_of c.args.dev v.tags)) v.devices (set c.self.inside.devices.items c.in-Some.place c.fuller.result)) c.self.view_is
    (changed c.args.dev (fuller (out_of c.args.dev c.self.inside.tags)) (λ x. refl) c.self.inside.devices.items c.in-Some.place c.index.result.now c.fuller.result at c.index.ensures becomes)

pub returns-in_default-clause-devices : goal.returns-in_default-clause-devices
returns-in_default-clause-devices c =
    let at : position (is_at c.args.dev) c.self.inside.devices.items ≡ None =
    ap (λ (xs : List DeviceDepth). position (is_at c.args.dev) xs) (sym c.deref.ensures.value) ∙ sym c.place_of.ensures ∙ c.in_default.is
    in
    unchanged c.args.dev (fuller (out_of c.args.dev c.args.self.now.tags)) c.args.self.now.devices
    (subst (λ (v : Pool). position (is_at c.args.dev) v.devices ≡ None) c.self.view_is at)
