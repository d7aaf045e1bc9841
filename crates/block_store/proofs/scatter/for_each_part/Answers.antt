use Rattle.std.proofs.Common.{refl, arith, ◌≡◌, ◌+◌, ◌-◌, ◌∙◌, slice_index_or}
use denote.Param.Always.{mut_next}
use Rattle.block_store.proofs.Visits.{visits_next, at_more, part_long}
use Rattle.block_store.proofs.scatter.for_each_part.Goals as goal

pub loop-len-preserved : goal.loop-len-preserved
loop-len-preserved g c =
    let n = slice_index_or c.args.lens.now c.loop-len.len-index 0 in
    let len : c.loop-len.at + n - c.loop-len.at ≡ n = omega arith in
    let at = c.loop-len.invariant.1 in
    let less = c.loop-len-test.true in
    let long = c.visit.auto.arg2 ∙ part_long c.args.buf.now _ c.loop-len.buf _ _ _ less at c.requires.inside c.loop-len.auto.buf len in (
      mut_next _ _ _ _ _ _ c.visit.ensures refl c.loop-len.invariant.0,
      at_more _ _ _ less at,
      visits_next g.F.FnMut _ _ _ _ _ _ _ _ _ _ less at len c.loop-len.invariant.2 (record { shown = _; shows = refl; left = _; called = c.visit.ensures; leaves = refl }) long,
    )
