use Rattle.std.proofs.Common.{◌≡◌, length, ◌∙◌, sym, ap, arith}
use Rattle.std.proofs.lemmas.Option.{same_Some}
use Rattle.disposition.specs.Disp.{disp}
use Rattle.command_table.specs.declared.rows.CommandRow.{CommandRow}
use Rattle.mid_core.proofs.Known.{device_within}
use Rattle.mid_core.proofs.Judged.{place_within, command_within, disposition_is, few_allowed, retry_remains}
use Rattle.mid_core.proofs.Offered.{read_there}
use Rattle.mid_core.proofs.judging.judge.Goals as goal

pub bounds-as_slice-row : goal.bounds-as_slice-row
bounds-as_slice-row c =
    let within = command_within c.args.spec.now c.requires.runs.0 c.args.running.now c.requires.runs.1 c.args.n.0 c.args.row c.requires.row in
    omega (arith, ap length c.as_slice.ensures)

pub offset_bounds-as_slice-row : goal.offset_bounds-as_slice-row
offset_bounds-as_slice-row c =
    let within = command_within c.args.spec.now c.requires.runs.0 c.args.running.now c.requires.runs.1 c.args.n.0 c.args.row c.requires.row in
    omega (arith, ap length c.as_slice.ensures)

pub command-kept-requires : goal.command-kept-requires
command-kept-requires c = place_within c.args.spec.now c.requires.runs.0 c.args.running.now c.requires.runs.1 c.args.n.0 c.args.row c.requires.row

pub device_state-requires : goal.device_state-requires
device_state-requires c =
    device_within c.args.spec.now c.requires.runs.0 c.args.running.now c.requires.runs.1 c.args.row.place c.command-kept.result c.command-kept.ensures

pub returns-clause-disp : goal.returns-clause-disp
returns-clause-disp c = λ P runs.
    let within = command_within c.args.spec.now P c.args.running.now runs c.args.n.0 c.args.row c.requires.row in
    let read = read_there c.as_slice.result.now c.args.spec.now.cmds c.args.row.place c.index-as_slice-row.result c.as_slice.ensures within c.index-as_slice-row.is in
    c.decide.ensures
    ∙ ap (disp c.args.a.now c.command-kept.result.retries c.index-as_slice-row.result.allowed c.index-as_slice-row.result.failfast) c.online.ensures
    ∙ sym (disposition_is c.args.spec.now P c.args.running.now runs c.args.n.0 c.args.row c.requires.row c.command-kept.result c.command-kept.ensures c.args.a.now c.index-as_slice-row.result c.device_state.result read c.device_state.ensures)

pub returns-clause-few : goal.returns-clause-few
returns-clause-few c = λ is x at.
    let within = command_within c.args.spec.now c.requires.runs.0 c.args.running.now c.requires.runs.1 c.args.n.0 c.args.row c.requires.row in
    let read = read_there c.as_slice.result.now c.args.spec.now.cmds c.args.row.place c.index-as_slice-row.result c.as_slice.ensures within c.index-as_slice-row.is in
    let few = few_allowed c.args.spec.now c.requires.runs.1.limits c.args.row.place c.index-as_slice-row.result read in
    let same : c.command-kept.result ≡ x = same_Some c.command-kept.result x (sym c.command-kept.ensures ∙ at) in
    let fewer = retry_remains c.args.a.now c.command-kept.result.retries c.index-as_slice-row.result.allowed c.index-as_slice-row.result.failfast c.online.result (sym c.decide.ensures ∙ is) in
    omega (arith, ap (λ (r : CommandRow). r.retries) same)
