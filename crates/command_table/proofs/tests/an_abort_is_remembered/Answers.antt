use Rattle.std.proofs.Common.{◌∙◌, ap, sym, subst, ℕ, ◌<◌, length, true}
use Rattle.std.proofs.lemmas.List.{length-set}
use Rattle.std.proofs.lemmas.Option.{slice_get_within}
use Rattle.trace_model.specs.Commands.{is_busy}
use Rattle.command_table.proofs.Places.{row_here}
use Rattle.command_table.proofs.tests.an_abort_is_remembered.Goals as goal

pub row-requires : goal.row-requires
row-requires g c =
    let rows = c.in-Some.table.rows.items in
    let row = row_here (λ r. is_busy r.standing) rows c.in-Some.place true c.in-Some.ensures.busy in
    subst (λ (n : ℕ). c.in-Some.place < n)
    (sym (ap length (c.schedule_abort.ensures.row row.0 row.1) ∙ length-set rows c.in-Some.place (record row.0 { aborted = true })))
    (slice_get_within rows c.in-Some.place row.0 row.1)
