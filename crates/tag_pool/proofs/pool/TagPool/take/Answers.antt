use Rattle.std.proofs.Common.{◌≡◌, ◌∙◌, sym, ap, subst, List, arith, true, false, ℕ, ◌<◌, ◌≤◌, length}
use Rattle.std.specs.Prelude.{Some, None}
use Rattle.std.specs.List.{position}
use Rattle.tag_pool.specs.Depths.{is_at, depth_in}
use Rattle.tag_pool.specs.Pool.{Pool}
use Rattle.tag_pool.specs.Tags.{is_out, out_of, IsLeastFree}
use Rattle.tag_pool.specs.declared.depths.DeviceDepth.{DeviceDepth}
use Rattle.tag_pool.proofs.Held.{counted_read, counted_taken}
use Rattle.tag_pool.proofs.Lists.{depth_found, depth_missing}
use Rattle.tag_pool.proofs.pool.TagPool.take.Goals as goal

pub returns-in_default-place_of-clause-answer : goal.returns-in_default-place_of-clause-answer
returns-in_default-place_of-clause-answer c =
    let at : position (is_at c.args.dev) c.self.inside.devices.items ≡ None =
    ap (λ (xs : List DeviceDepth). position (is_at c.args.dev) xs) (sym c.deref.ensures.value) ∙ sym c.place_of.ensures ∙ c.in_default-place_of.is
    in
    let none : 0 ≡ depth_in c.args.dev c.self.inside.devices.items = depth_missing c.args.dev c.self.inside.devices.items at in
    subst (λ (v : Pool). ((t : ℕ) × (t < length v.tags) × (is_out t v.tags ≡ false)) × (depth_in c.args.dev v.devices ≤ out_of c.args.dev v.tags) × (0 ≡ depth_in c.args.dev v.devices)) c.self.view_is
    ((c.in-Some.free, c.in-Some.ensures.0, c.in-Some.ensures.1), omega (arith, none), none)

pub returns-then-index-depth-clause-answer : goal.returns-then-index-depth-clause-answer
returns-then-index-depth-clause-answer c =
    let at : position (is_at c.args.dev) c.self.inside.devices.items ≡ Some c.in-Some-place_of.place =
    ap (λ (xs : List DeviceDepth). position (is_at c.args.dev) xs) (sym c.deref.ensures.value) ∙ sym c.place_of.ensures ∙ c.in-Some-place_of.is
    in
    let out : c.index-2.result.now ≡ out_of c.args.dev c.self.inside.tags =
    counted_read c.self.inside.tags c.self.inside.devices.items c.self.inside.counts.items c.args.dev c.index.result.now c.in-Some-place_of.place c.index-2.result.now c.self.invariant.1 at c.index-2.ensures
    in
    let depth : c.index.result.now.depth ≡ depth_in c.args.dev c.self.inside.devices.items = depth_found c.args.dev c.self.inside.devices.items c.in-Some-place_of.place c.index.result.now at c.index.ensures in
    subst (λ (v : Pool). ((t : ℕ) × (t < length v.tags) × (is_out t v.tags ≡ false)) × (depth_in c.args.dev v.devices ≤ out_of c.args.dev v.tags) × (c.index.result.now.depth ≡ depth_in c.args.dev v.devices)) c.self.view_is
    ((c.in-Some.free, c.in-Some.ensures.0, c.in-Some.ensures.1), omega (arith, out, depth, c.if-index-depth.true), depth)

pub invariant_of-self : goal.invariant_of-self
invariant_of-self c =
    let at : position (is_at c.args.dev) c.self.inside.devices.items ≡ Some c.in-Some-place_of.place =
    ap (λ (xs : List DeviceDepth). position (is_at c.args.dev) xs) (sym c.deref.ensures.value) ∙ sym c.place_of.ensures ∙ c.in-Some-place_of.is
    in (
      c.self.invariant.0,
      rw c.take.ensures
          (counted_taken c.self.inside.tags c.self.inside.devices.items c.self.inside.counts.items c.args.dev c.index.result.now c.in-Some-place_of.place c.in-Some.free c.index_mut.result.now c.self.invariant.1 at c.in-Some.ensures.0 c.in-Some.ensures.1 c.index_mut.ensures.value),
    )

pub returns-clause-answer : goal.returns-clause-answer
returns-clause-answer c =
    let at : position (is_at c.args.dev) c.self.inside.devices.items ≡ Some c.in-Some-place_of.place =
    ap (λ (xs : List DeviceDepth). position (is_at c.args.dev) xs) (sym c.deref.ensures.value) ∙ sym c.place_of.ensures ∙ c.in-Some-place_of.is
    in
    let out : c.index-2.result.now ≡ out_of c.args.dev c.self.inside.tags =
    counted_read c.self.inside.tags c.self.inside.devices.items c.self.inside.counts.items c.args.dev c.index.result.now c.in-Some-place_of.place c.index-2.result.now c.self.invariant.1 at c.index-2.ensures
    in
    let depth : c.index.result.now.depth ≡ depth_in c.args.dev c.self.inside.devices.items = depth_found c.args.dev c.self.inside.devices.items c.in-Some-place_of.place c.index.result.now at c.index.ensures in
    subst (λ (v : Pool). IsLeastFree c.in-Some.free v.tags × (out_of c.args.dev v.tags < depth_in c.args.dev v.devices)) c.self.view_is
    (c.in-Some.ensures, omega (arith, out, depth, c.if-index-depth.false))
