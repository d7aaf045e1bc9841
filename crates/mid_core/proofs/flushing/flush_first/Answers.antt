use Rattle.std.proofs.Common.{◌≡◌, ◌<◌, ◌∙◌, sym, ap, length, Option, arith}
use Rattle.std.specs.Prelude.{option_copied}
use Rattle.std.proofs.lemmas.Option.{same_Some}
use Rattle.mid_base.specs.declared.answers.Answer.{Answer}
use Rattle.done_flush.specs.Verdict.{flush}
use Rattle.command_table.specs.declared.rows.CommandRow.{CommandRow}
use Rattle.mid_core.specs.Recovering.{entry_of}
use Rattle.mid_core.proofs.Known.{device_within}
use Rattle.mid_core.proofs.Judged.{place_within, command_within, few_allowed}
use Rattle.mid_core.proofs.Offered.{read_there}
use Rattle.mid_core.proofs.Flushed.{has_row, failed_with, failed_row, flushed_is, has_retries_by}
use Rattle.mid_core.proofs.flushing.flush_first.Goals as goal

pub unreachable-requires : goal.unreachable-requires
unreachable-requires c =
    let it = c.requires in
    has_row c.args.spec.now it.entries c.args.running.now it.runs it.legal c.args.failed it.first (sym c.attempt.ensures ∙ c.in_default.is)

pub offset_bounds-as_slice-row : goal.offset_bounds-as_slice-row
offset_bounds-as_slice-row c =
    let within = command_within c.args.spec.now c.requires.entries c.args.running.now c.requires.runs c.args.failed.attempt.0 c.in-Some.row (sym c.attempt.ensures ∙ c.in-Some.is) in
    omega (arith, ap length c.as_slice.ensures)

pub bounds-as_slice-row : goal.bounds-as_slice-row
bounds-as_slice-row c =
    let within = command_within c.args.spec.now c.requires.entries c.args.running.now c.requires.runs c.args.failed.attempt.0 c.in-Some.row (sym c.attempt.ensures ∙ c.in-Some.is) in
    omega (arith, ap length c.as_slice.ensures)

pub command-kept-requires : goal.command-kept-requires
command-kept-requires c =
    place_within c.args.spec.now c.requires.entries c.args.running.now c.requires.runs c.args.failed.attempt.0 c.in-Some.row (sym c.attempt.ensures ∙ c.in-Some.is)

pub device_state-state-requires : goal.device_state-state-requires
device_state-state-requires c =
    device_within c.args.spec.now c.requires.entries c.args.running.now c.requires.runs c.in-Some.row.place c.command-kept.result c.command-kept.ensures

pub retry_failed-requires-clause-failed : goal.retry_failed-requires-clause-failed
retry_failed-requires-clause-failed c =
    let it = c.requires in
    failed_row c.args.spec.now it.entries c.args.running.now it.runs it.legal c.args.failed it.first c.in-Some.row (sym c.attempt.ensures ∙ c.in-Some.is)

pub retry_failed-requires-clause-few : goal.retry_failed-requires-clause-few
retry_failed-requires-clause-few c = λ x at.
    let it = c.requires in
    let within = command_within c.args.spec.now it.entries c.args.running.now it.runs c.args.failed.attempt.0 c.in-Some.row (sym c.attempt.ensures ∙ c.in-Some.is) in
    let k = c.index-as_slice-row.result in
    let kept = c.command-kept.result in
    let read = read_there c.as_slice.result.now c.args.spec.now.cmds c.in-Some.row.place k c.as_slice.ensures within c.index-as_slice-row.is in
    let few = few_allowed c.args.spec.now it.runs.limits c.in-Some.row.place k read in
    let same : kept ≡ x = same_Some kept x (sym c.command-kept.ensures ∙ at) in
    let fewer : kept.retries < k.allowed = has_retries_by k kept.retries c.device_state-state.result (option_copied c.as_ref.result) c.args.failed.success (sym c.verdict.ensures ∙ c.in-Again.is) in
    omega (arith, few, fewer, ap (λ (r : CommandRow). r.retries) same)

pub report_failed-requires : goal.report_failed-requires
report_failed-requires c =
    let it = c.requires in
    failed_row c.args.spec.now it.entries c.args.running.now it.runs it.legal c.args.failed it.first c.in-Some.row (sym c.attempt.ensures ∙ c.in-Some.is)

pub returns-in-Again-clause-entry : goal.returns-in-Again-clause-entry
returns-in-Again-clause-entry c = λ P legal runs.
    let spec = c.args.spec.now in
    let row = c.in-Some.row in
    let there = sym c.attempt.ensures ∙ c.in-Some.is in
    let k = c.index-as_slice-row.result in
    let kept = c.command-kept.result in
    let state = c.device_state-state.result in
    let within = command_within spec P c.args.running.now runs c.args.failed.attempt.0 row there in
    let read = read_there c.as_slice.result.now spec.cmds row.place k c.as_slice.ensures within c.index-as_slice-row.is in
    let is = flushed_is spec P c.args.running.now runs legal c.args.failed c.requires.first row there kept c.command-kept.ensures k read state c.device_state-state.ensures in
    sym (is ∙ ap (λ (a : Option Answer). entry_of row.command (flush k kept.retries state a c.args.failed.success)) (sym c.as_ref.ensures.value) ∙ ap (entry_of row.command) (sym c.verdict.ensures ∙ c.in-Again.is))

pub returns-in-Again-clause-runs : goal.returns-in-Again-clause-runs
returns-in-Again-clause-runs c = λ P legal runs.
    let with_it = failed_with c.args.spec.now P c.args.running.now runs legal c.args.failed c.requires.first c.in-Some.row (sym c.attempt.ensures ∙ c.in-Some.is) in
    c.retry_failed.ensures.runs c.args.spec.now P with_it runs

pub returns-in-Told-clause-entry : goal.returns-in-Told-clause-entry
returns-in-Told-clause-entry c = λ P legal runs.
    let spec = c.args.spec.now in
    let row = c.in-Some.row in
    let there = sym c.attempt.ensures ∙ c.in-Some.is in
    let k = c.index-as_slice-row.result in
    let kept = c.command-kept.result in
    let state = c.device_state-state.result in
    let within = command_within spec P c.args.running.now runs c.args.failed.attempt.0 row there in
    let read = read_there c.as_slice.result.now spec.cmds row.place k c.as_slice.ensures within c.index-as_slice-row.is in
    let is = flushed_is spec P c.args.running.now runs legal c.args.failed c.requires.first row there kept c.command-kept.ensures k read state c.device_state-state.ensures in
    sym (is ∙ ap (λ (a : Option Answer). entry_of row.command (flush k kept.retries state a c.args.failed.success)) (sym c.as_ref.ensures.value) ∙ ap (entry_of row.command) (sym c.verdict.ensures ∙ c.in-Told.is))

pub returns-in-Told-clause-runs : goal.returns-in-Told-clause-runs
returns-in-Told-clause-runs c = λ P legal runs.
    let with_it = failed_with c.args.spec.now P c.args.running.now runs legal c.args.failed c.requires.first c.in-Some.row (sym c.attempt.ensures ∙ c.in-Some.is) in
    c.report_failed.ensures.runs c.args.spec.now P c.in-Told.answer with_it runs
