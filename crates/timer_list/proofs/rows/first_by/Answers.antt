use Rattle.std.proofs.Common.{arith, sym}
use Rattle.std.proofs.lemmas.Grind.{common_steps}
use Rattle.timer_list.proofs.Places.{late_row, first_row}
use Rattle.timer_list.proofs.rows.first_by.Goals as goal

pub returns-then-gt : goal.returns-then-gt
returns-then-gt c =
    late_row c.args.row.now c.args.now.0 c.in_ok-first.field-0.now c.requires (λ d. sym (c.in_ok-first.ensures.item.3.1 d))
    (grind (arith, common_steps))

pub returns : goal.returns
returns c =
    first_row c.args.row.now c.args.now.0 c.in_ok-first.field-0.now c.requires c.in_ok-first.ensures.item.3.0
    (λ d. sym (c.in_ok-first.ensures.item.3.1 d)) (grind (arith, common_steps))
