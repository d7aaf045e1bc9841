use Rattle.std.proofs.Common.{arith}
use Rattle.std.proofs.lemmas.Bool.Decides.{nat_tests}
use Rattle.std.proofs.lemmas.Grind.{common_steps}
use Rattle.timer_list.proofs.Places.{no_number}
use Rattle.timer_list.proofs.rows.find.Goals as goal
use Rattle.timer_list.proofs.rows.find.Goals.{else-place-row-via-then-place-row+else-eq, else-place-row-via-else-place-row}

pub returns : goal.returns
returns c =
    no_number (c.args.n, record { 0 = 0 }) c.args.row.now c.place_by_number-place.result c.requires c.place_by_number-place.ensures
    (λ within d same.
    elim c.else-place-row.branch [
      | else-place-row-via-then-place-row+else-eq w ↦ grind (arith, common_steps, nat_tests, same, w.eq.ensures, w.if-eq.false)
      | else-place-row-via-else-place-row w ↦ omega (arith, within, w.if-place-row.false)
    ])
