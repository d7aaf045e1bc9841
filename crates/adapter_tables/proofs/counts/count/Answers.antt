use Rattle.std.proofs.Common.{length, ◌<◌, subst, arith}
use Rattle.std.proofs.lemmas.List.Edits.{map_over_more}
use Rattle.std.proofs.lemmas.List.{get_or_default}
use Rattle.adapter_tables.specs.Ties.{counted_row}
use Rattle.adapter_tables.proofs.counts.count.Goals as goal

pub loop-r-preserved : goal.loop-r-preserved
loop-r-preserved c =
    let lt : c.loop-r.r-index < length c.args.rows.now.items = subst (λ xs. c.loop-r.r-index < length xs) c.deref_mut-r-items.ensures.value c.loop-r-test.true in
    let here : c.loop-r.r-index < length c.loop-r.r-items = omega arith in
    rw c.counted_in.ensures (map_over_more (counted_row c.args.scope c.args.class) c.args.rows.now.items c.loop-r.r-items c.loop-r.r-index _ lt c.loop-r.invariant (get_or_default c.loop-r.r-items c.loop-r.r-index _ _ here))
