use Rattle.std.proofs.Common.{◌≡◌, arith, reverse, take, length, ap, length-take}
use Rattle.std.proofs.lemmas.List.{length-reverse}
use Rattle.report_text.specs.declared.gather.Row.{Row}
use Rattle.report_text.proofs.Back.{back}
use Rattle.report_text.proofs.Rows.{retries-le-length}
use Rattle.report_text.proofs.gather.Results.gather.Goals as goal

pub note_row-requires : goal.note_row-requires
note_row-requires c = λ k.
    let front = take c.loop-place.place c.args.entries.now in
    omega (arith, ap (λ (r : Row). r.retries) (c.loop-place.invariant.rows k), retries-le-length k (reverse front), length-reverse front, length-take c.loop-place.place c.args.entries.now)

pub loop-place-preserved : goal.loop-place-preserved
loop-place-preserved c =
    let run = c.loop-place.invariant in
    let front = take c.loop-place.place c.args.entries.now in
    let here : c.loop-place.place ≡ length (reverse front) = omega (arith, length-reverse front, length-take c.loop-place.place c.args.entries.now) in
    rw (back c.args.entries.now c.loop-place.place c.index-entries-place.result (omega arith) c.index-entries-place.is) (record {
      rows = c.in_ok-note_row.ensures _ run.rows run.owners here;
      owners = c.in_ok-note_owner.ensures _ run.owners;
    })
