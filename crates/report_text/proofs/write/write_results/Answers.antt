use Rattle.std.proofs.Common.{refl, arith, take, drop, get_or, ◌+◌}
use Rattle.std.specs.List.{flat_map}
use Rattle.report_text.specs.Results.{result_text}
use Rattle.report_text.specs.Tables.{gathered_line}
use Rattle.report_text.proofs.Parts.{parts_at}
use Rattle.report_text.proofs.Written.{errs_as}
use Rattle.report_text.proofs.write.write_results.Goals as goal

pub returns-in-Err-clause-answer : goal.returns-in-Err-clause-answer
returns-in-Err-clause-answer g c =
    let part = gathered_line c.args.entries.now c.args.results.now in
    let ids = c.args.ids.now in
    let i = c.loop-c.c-index in
    let id = get_or ids i 0 in
    errs_as _ _ _ (flat_map part (take i ids)) (part id) (result_text id c.report_in-report.result c.row-row.result.retries) (flat_map part (drop (i + 1) ids)) (flat_map part ids) _ _ _ _ c.loop-c.invariant.out (parts_at part ids i 0 (omega arith)) c.loop-c.invariant.later
    (rw (c.report_in-report.ensures, c.row-row.ensures) refl) c.in-Err.ensures.answer
