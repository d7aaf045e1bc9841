use Rattle.std.proofs.Common.{◌≡◌, ◌∙◌, sym, ap, subst, List, arith, true, get_or, ◌<◌, length}
use Rattle.std.specs.Prelude.{Some, None}
use Rattle.std.specs.List.{position}
use Rattle.tag_pool.specs.Depths.{is_at}
use Rattle.tag_pool.specs.Pool.{Pool}
use Rattle.tag_pool.specs.Tags.{is_out, out_of}
use Rattle.tag_pool.specs.declared.depths.DeviceDepth.{DeviceDepth}
use Rattle.tag_pool.proofs.Held.{counted_read, counted_given, some_out}
use Rattle.tag_pool.proofs.pool.TagPool.give.Goals as goal

pub overflow_sub-index_mut : goal.overflow_sub-index_mut
overflow_sub-index_mut c =
    let at : position (is_at c.give-dev.result) c.self.inside.devices.items ≡ Some c.in-Some.place =
    ap (λ (xs : List DeviceDepth). position (is_at c.give-dev.result) xs) (sym c.deref.ensures.value) ∙ sym c.place_of.ensures ∙ c.in-Some.is
    in
    let out : is_out c.args.t.0 c.self.inside.tags ≡ true = subst (λ (v : Pool). is_out c.args.t.0 v.tags ≡ true) (sym c.self.view_is) c.requires in
    let n : c.index_mut.result.now ≡ out_of c.give-dev.result c.self.inside.tags =
    counted_read c.self.inside.tags c.self.inside.devices.items c.self.inside.counts.items c.give-dev.result (record { dev = c.give-dev.result; scripted = 0; depth = 0; goods = 0 }) c.in-Some.place c.index_mut.result.now c.self.invariant.1 at c.index_mut.ensures.value
    in
    omega (arith, n, some_out c.self.inside.tags c.give-dev.result c.args.t.0 out c.give-dev.ensures.holder)

pub invariant_of-self : goal.invariant_of-self
invariant_of-self c =
    let at : position (is_at c.give-dev.result) c.self.inside.devices.items ≡ Some c.in-Some.place =
    ap (λ (xs : List DeviceDepth). position (is_at c.give-dev.result) xs) (sym c.deref.ensures.value) ∙ sym c.place_of.ensures ∙ c.in-Some.is
    in
    let out : is_out c.args.t.0 c.self.inside.tags ≡ true = subst (λ (v : Pool). is_out c.args.t.0 v.tags ≡ true) (sym c.self.view_is) c.requires in (
      c.self.invariant.0,
      rw c.give-dev.ensures.free
          (counted_given c.self.inside.tags c.self.inside.devices.items c.self.inside.counts.items c.give-dev.result (record { dev = c.give-dev.result; scripted = 0; depth = 0; goods = 0 }) c.in-Some.place c.args.t.0 c.index_mut.result.now c.self.invariant.1 at out c.give-dev.ensures.holder c.index_mut.ensures.value),
    )
