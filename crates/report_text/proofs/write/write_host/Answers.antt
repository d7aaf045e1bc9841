use Rattle.std.proofs.Common.{refl, reverse, ap, ◌++◌, ◌∙◌}
use Rattle.std.specs.List.{flat_map}
use Rattle.report_text.specs.Results.{result_line}
use Rattle.report_text.specs.Tables.{gathered_line}
use Rattle.report_text.specs.Text.{entry_lines, host_line, ids_of}
use Rattle.report_text.proofs.Parts.{results_are}
use Rattle.report_text.proofs.Written.{ends_on, errs_on, ends_as, stops_in}
use Rattle.report_text.proofs.write.write_host.Goals as goal

pub returns-in-Err-clause-answer : goal.returns-in-Err-clause-answer
returns-in-Err-clause-answer g c =
    let P = reverse c.args.entries.now in
    stops_in _ _ (host_line c.args.host.0) (entry_lines P ++ flat_map (result_line P) (ids_of c.args.cmds.now)) _ _ _ c.in-Err.ensures.answer

pub returns-in-Err-write_entries-clause-answer : goal.returns-in-Err-write_entries-clause-answer
returns-in-Err-write_entries-clause-answer g c =
    let P = reverse c.args.entries.now in
    errs_on _ _ _ (host_line c.args.host.0) (entry_lines P) (flat_map (result_line P) (ids_of c.args.cmds.now)) _ _ _ _ _ c.in_default-put_host.ensures.answer refl c.put_host.ensures.later c.in-Err-write_entries.ensures.answer

pub returns-clause-answer : goal.returns-clause-answer
returns-clause-answer g c =
    let P = reverse c.args.entries.now in
    let results = flat_map (result_line P) (ids_of c.args.cmds.now) in
    let part = gathered_line c.args.entries.now c.in-Ok.results in
    let same = ap (flat_map part) (c.deref.ensures.value ∙ c.in-Ok-ids_in_order.ensures) ∙ results_are c.in-Ok.results c.args.entries.now (ids_of c.args.cmds.now) c.in-Ok.ensures in
    ends_on _ _ _ (host_line c.args.host.0) (entry_lines P ++ results) _ _ _ _ c.in_default-put_host.ensures.answer c.put_host.ensures.later
    (ends_as _ _ _ (entry_lines P) results (flat_map part c.deref.result.now) _ _ _ _ c.in_default-write_entries.ensures.answer c.write_entries.ensures.later same c.write_results.ensures.answer)
