use Rattle.std.proofs.Common.{◌∙◌, sym, ap, subst, length, ◌∷◌, arith}
use Rattle.mid_base.specs.declared.entries.Entry.TheVariants.{Aborted}
use Rattle.host_template.specs.Calls.{succeeded}
use Rattle.host_template.specs.declared.says.EhSay.{EhSay}
use Rattle.mid_core.proofs.Asked.{fits_last, first_is_busy}
use Rattle.mid_core.proofs.Judged.{command_within}
use Rattle.mid_core.proofs.Offered.{read_there}
use Rattle.mid_core.proofs.aborting.try_abort.Goals as goal

pub bounds-as_slice-row : goal.bounds-as_slice-row
bounds-as_slice-row g c =
    let within = command_within c.args.spec.now c.requires.runs.0 c.args.running.now c.requires.runs.1 c.args.n.0 c.args.row c.requires.first.at in
    omega (arith, ap length c.as_slice.ensures)

pub offset_bounds-as_slice-row : goal.offset_bounds-as_slice-row
offset_bounds-as_slice-row g c =
    let within = command_within c.args.spec.now c.requires.runs.0 c.args.running.now c.requires.runs.1 c.args.n.0 c.args.row c.requires.first.at in
    omega (arith, ap length c.as_slice.ensures)

pub returns-in-Success-clause-calls : goal.returns-in-Success-clause-calls
returns-in-Success-clause-calls g c = λ ok. sym c.can_abort.ensures ∙ c.if-not-can_abort.false

pub returns-in-Success-clause-stands : goal.returns-in-Success-clause-stands
returns-in-Success-clause-stands g c = λ P b runs stood.
    let first = c.requires.first in
    let within = command_within c.args.spec.now P c.args.running.now runs c.args.n.0 c.args.row first.at in
    let read = read_there c.as_slice.result.now c.args.spec.now.cmds c.args.row.place c.index-as_slice-row.result c.as_slice.ensures within c.index-as_slice-row.is in
    subst (λ (x : EhSay). g.A.HostTemplate.stands c.abort.new.self c.args.spec.now b (Aborted c.args.row.command c.args.n (succeeded x) ∷ P)) c.in-Success.is
    (c.abort.ensures.stands c.args.spec.now b P c.args.row.command c.index-as_slice-row.result
    (fits_last c.args.spec.now P c.args.running.now runs c.args.n c.args.row first.at (first_is_busy c.args.spec.now P c.args.running.now runs c.args.n c.args.row first) c.index-as_slice-row.result read)
    (sym c.can_abort.ensures ∙ c.if-not-can_abort.false) stood).0

pub returns-in-Failed-clause-stands : goal.returns-in-Failed-clause-stands
returns-in-Failed-clause-stands g c = λ P b runs stood.
    let first = c.requires.first in
    let within = command_within c.args.spec.now P c.args.running.now runs c.args.n.0 c.args.row first.at in
    let read = read_there c.as_slice.result.now c.args.spec.now.cmds c.args.row.place c.index-as_slice-row.result c.as_slice.ensures within c.index-as_slice-row.is in
    subst (λ (x : EhSay). g.A.HostTemplate.stands c.abort.new.self c.args.spec.now b (Aborted c.args.row.command c.args.n (succeeded x) ∷ P)) c.in-Failed.is
    (c.abort.ensures.stands c.args.spec.now b P c.args.row.command c.index-as_slice-row.result
    (fits_last c.args.spec.now P c.args.running.now runs c.args.n c.args.row first.at (first_is_busy c.args.spec.now P c.args.running.now runs c.args.n c.args.row first) c.index-as_slice-row.result read)
    (sym c.can_abort.ensures ∙ c.if-not-can_abort.false) stood).0
