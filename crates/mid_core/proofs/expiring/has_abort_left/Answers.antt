use Rattle.std.proofs.Common.{◌∙◌, sym, ap, length, arith}
use Rattle.mid_core.proofs.Judged.{place_within, command_within, abort_left_is}
use Rattle.mid_core.proofs.Offered.{read_there}
use Rattle.mid_core.proofs.expiring.has_abort_left.Goals as goal

pub bounds-as_slice-row : goal.bounds-as_slice-row
bounds-as_slice-row c =
    let within = command_within c.args.spec.now c.requires.runs.0 c.args.running.now c.requires.runs.1 c.args.n.0 c.args.row c.requires.row in
    omega (arith, ap length c.as_slice.ensures)

pub offset_bounds-as_slice-row : goal.offset_bounds-as_slice-row
offset_bounds-as_slice-row c =
    let within = command_within c.args.spec.now c.requires.runs.0 c.args.running.now c.requires.runs.1 c.args.n.0 c.args.row c.requires.row in
    omega (arith, ap length c.as_slice.ensures)

pub command-kept-requires : goal.command-kept-requires
command-kept-requires c = place_within c.args.spec.now c.requires.runs.0 c.args.running.now c.requires.runs.1 c.args.n.0 c.args.row c.requires.row

pub returns : goal.returns
returns c = λ P runs.
    let within = command_within c.args.spec.now P c.args.running.now runs c.args.n.0 c.args.row c.requires.row in
    let read = read_there c.as_slice.result.now c.args.spec.now.cmds c.args.row.place c.index-as_slice-row.result c.as_slice.ensures within c.index-as_slice-row.is in
    c.is_left.ensures ∙ sym (abort_left_is c.args.spec.now P c.args.running.now runs c.args.n.0 c.args.row c.requires.row c.command-kept.result c.command-kept.ensures c.index-as_slice-row.result read)
