use Rattle.std.proofs.Common.{◌≡◌, ◌∙◌, sym, ap, subst, List, ℕ, take, map, arith, rules, length, replicate}
use Rattle.std.specs.List.{All}
use Rattle.std.proofs.lemmas.Grind.{common_steps}
use Rattle.std.proofs.lemmas.List.{length-map}
use Rattle.mid_base.specs.declared.names.DevAddr.{DevAddr}
use Rattle.tag_pool.specs.Depths.{at_start, IsSound}
use Rattle.tag_pool.specs.declared.depths.DeviceDepth.{DeviceDepth}
use Rattle.tag_pool.proofs.Held.{counted_none}
use Rattle.tag_pool.proofs.Lists.{starts_sound}
use Rattle.tag_pool.proofs.pool.TagPool.new.Goals as goal

pub invariant_of-result : goal.invariant_of-result
invariant_of-result c =
    let all : take c.loop-scripted.scripted-index c.args.devices.now ≡ c.args.devices.now = grind (arith, common_steps) in
    let items : c.loop-scripted.depths.items ≡ map at_start c.args.devices.now =
    c.loop-scripted.invariant.0 ∙ ap (λ (xs : List (DevAddr × ℕ)). map at_start xs) all
    in
    let filled : c.in-Ok-vec.counts.items ≡ replicate (length c.args.devices.now) 0 = search rules in
    let each : length c.args.devices.now ≡ length c.loop-scripted.depths.items =
    sym (ap (λ (xs : List DeviceDepth). length xs) items ∙ length-map c.args.devices.now at_start)
    in (
      subst (λ (xs : List DeviceDepth). All IsSound xs) (sym items) (starts_sound c.args.devices.now c.requires),
      rw (c.in_ok-tags.ensures, filled) (counted_none c.args.can_queue (length c.args.devices.now) c.loop-scripted.depths.items each),
    )
