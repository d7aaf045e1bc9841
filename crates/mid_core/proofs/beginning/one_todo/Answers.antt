use Rattle.std.proofs.Common.{◌∙◌, sym, ap, length, is_some, Option, arith}
use Rattle.std.proofs.lemmas.Bool.{false≢true}
use Rattle.attempt_table.specs.declared.rows.Row.{Row}
use Rattle.mid_core.proofs.Begins.{has_row, todo_is}
use Rattle.mid_core.proofs.Judged.{place_within, command_within}
use Rattle.mid_core.proofs.Known.{device_within}
use Rattle.mid_core.proofs.Offered.{read_there}
use Rattle.mid_core.proofs.beginning.one_todo.Goals as goal

pub unreachable-requires : goal.unreachable-requires
unreachable-requires c =
    let is = c.requires.2 in
    absurd (false≢true (sym (ap (λ (o : Option Row). is_some o) (sym c.attempt.ensures ∙ c.in_default.is)) ∙ has_row c.args.spec.now c.requires.0 c.args.running.now c.requires.1 c.args.failed is))

pub offset_bounds-as_slice-row : goal.offset_bounds-as_slice-row
offset_bounds-as_slice-row c =
    let within = command_within c.args.spec.now c.requires.0 c.args.running.now c.requires.2.runs c.args.failed.attempt.0 c.in-Some.row (sym c.attempt.ensures ∙ c.in-Some.is) in
    omega (arith, ap length c.as_slice.ensures)

pub bounds-as_slice-row : goal.bounds-as_slice-row
bounds-as_slice-row c =
    let within = command_within c.args.spec.now c.requires.0 c.args.running.now c.requires.2.runs c.args.failed.attempt.0 c.in-Some.row (sym c.attempt.ensures ∙ c.in-Some.is) in
    omega (arith, ap length c.as_slice.ensures)

pub command-kept-requires : goal.command-kept-requires
command-kept-requires c = place_within c.args.spec.now c.requires.0 c.args.running.now c.requires.2.runs c.args.failed.attempt.0 c.in-Some.row (sym c.attempt.ensures ∙ c.in-Some.is)

pub device_state-requires : goal.device_state-requires
device_state-requires c = device_within c.args.spec.now c.requires.0 c.args.running.now c.requires.2.runs c.in-Some.row.place c.command-kept.result c.command-kept.ensures

pub returns : goal.returns
returns c = λ P f is.
    let at = sym c.attempt.ensures ∙ c.in-Some.is in
    let within = command_within c.args.spec.now P c.args.running.now is.runs c.args.failed.attempt.0 c.in-Some.row at in
    let read = read_there c.as_slice.result.now c.args.spec.now.cmds c.in-Some.row.place c.index-as_slice-row.result c.as_slice.ensures within c.index-as_slice-row.is in
    todo_is c.args.spec.now P c.args.running.now f c.args.failed is c.in-Some.row at c.command-kept.result c.command-kept.ensures c.index-as_slice-row.result read c.device_state.result c.device_state.ensures
    c.online.result c.online.ensures
