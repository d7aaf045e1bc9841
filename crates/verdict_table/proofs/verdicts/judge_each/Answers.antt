use Rattle.std.proofs.Common.{◌<◌, List, length, subst, arith}
use Rattle.std.proofs.lemmas.List.{get_or_default}
use Rattle.std.proofs.lemmas.List.Edits.{map_over_more}
use Rattle.verdict_table.specs.declared.verdicts.FailedRow.{FailedRow}
use Rattle.verdict_table.specs.VerdictsAgree.{judged}
use Rattle.verdict_table.proofs.verdicts.judge_each.Goals as goal

pub loop-row-preserved : goal.loop-row-preserved
loop-row-preserved c =
    let old = c.args.rows.now.items in
    let within : c.loop-row.row-index < length old = subst (λ (rows : List FailedRow). c.loop-row.row-index < length rows) c.deref_mut-row-items.ensures.value c.loop-row-test.true in
    let here : c.loop-row.row-index < length c.loop-row.row-items = omega arith in
    rw c.judged.ensures
    (map_over_more (judged c.args.n c.args.d) old c.loop-row.row-items c.loop-row.row-index _ within c.loop-row.invariant
    (get_or_default c.loop-row.row-items c.loop-row.row-index _ _ here))
