use Rattle.std.proofs.Common.{◌∙◌, sym, ap, subst, length, ◌∷◌, arith}
use Rattle.host_template.specs.Calls.{timed_out}
use Rattle.host_template.specs.declared.says.TimerSay.{TimerSay}
use Rattle.mid_core.proofs.Asked.{fits_last, asked_busy, timeout_is}
use Rattle.mid_core.proofs.Judged.{command_within}
use Rattle.mid_core.proofs.Offered.{read_there}
use Rattle.mid_core.proofs.asking.ask.Goals as goal

pub bounds-as_slice-row : goal.bounds-as_slice-row
bounds-as_slice-row g c =
    let within = command_within c.args.spec.now c.requires.runs.0 c.args.running.now c.requires.runs.1 c.args.n.0 c.in-Some.row (sym c.attempt.ensures ∙ c.in-Some.is) in
    omega (arith, ap length c.as_slice.ensures)

pub offset_bounds-as_slice-row : goal.offset_bounds-as_slice-row
offset_bounds-as_slice-row g c =
    let within = command_within c.args.spec.now c.requires.runs.0 c.args.running.now c.requires.runs.1 c.args.n.0 c.in-Some.row (sym c.attempt.ensures ∙ c.in-Some.is) in
    omega (arith, ap length c.as_slice.ensures)

pub returns-in-NotHandled-clause-runs : goal.returns-in-NotHandled-clause-runs
returns-in-NotHandled-clause-runs g c = λ P runs. c.expire.ensures.runs c.args.spec.now P runs

pub returns-in-NotHandled-clause-stands : goal.returns-in-NotHandled-clause-stands
returns-in-NotHandled-clause-stands g c = λ P b runs stood.
    let there = sym c.attempt.ensures ∙ c.in-Some.is in
    let within = command_within c.args.spec.now P c.args.running.now runs c.args.n.0 c.in-Some.row there in
    let read = read_there c.as_slice.result.now c.args.spec.now.cmds c.in-Some.row.place c.index-as_slice-row.result c.as_slice.ensures within c.index-as_slice-row.is in
    subst (λ (x : TimerSay). g.A.HostTemplate.stands c.timed_out.new.self c.args.spec.now b (timed_out c.args.n x ∷ P)) c.in-NotHandled.is
    (c.timed_out.ensures.stands c.args.spec.now b P c.in-Some.row.command c.index-as_slice-row.result
    (fits_last c.args.spec.now P c.args.running.now runs c.args.n c.in-Some.row there (asked_busy c.args.spec.now P c.args.running.now runs c.args.n c.requires.asked c.in-Some.row there) c.index-as_slice-row.result read)
    (c.now.ensures ∙ sym runs.time) stood)

pub returns-in-ResetTimer-clause-runs : goal.returns-in-ResetTimer-clause-runs
returns-in-ResetTimer-clause-runs g c = λ P runs.
    let there = sym c.attempt.ensures ∙ c.in-Some.is in
    let within = command_within c.args.spec.now P c.args.running.now runs c.args.n.0 c.in-Some.row there in
    let read = read_there c.as_slice.result.now c.args.spec.now.cmds c.in-Some.row.place c.index-as_slice-row.result c.as_slice.ensures within c.index-as_slice-row.is in
    c.lengthen.ensures.runs c.args.spec.now P (timeout_is c.args.spec.now P c.args.running.now runs c.args.n c.in-Some.row there c.index-as_slice-row.result read) runs

pub returns-in-ResetTimer-clause-stands : goal.returns-in-ResetTimer-clause-stands
returns-in-ResetTimer-clause-stands g c = λ P b runs stood.
    let there = sym c.attempt.ensures ∙ c.in-Some.is in
    let within = command_within c.args.spec.now P c.args.running.now runs c.args.n.0 c.in-Some.row there in
    let read = read_there c.as_slice.result.now c.args.spec.now.cmds c.in-Some.row.place c.index-as_slice-row.result c.as_slice.ensures within c.index-as_slice-row.is in
    subst (λ (x : TimerSay). g.A.HostTemplate.stands c.timed_out.new.self c.args.spec.now b (timed_out c.args.n x ∷ P)) c.in-ResetTimer.is
    (c.timed_out.ensures.stands c.args.spec.now b P c.in-Some.row.command c.index-as_slice-row.result
    (fits_last c.args.spec.now P c.args.running.now runs c.args.n c.in-Some.row there (asked_busy c.args.spec.now P c.args.running.now runs c.args.n c.requires.asked c.in-Some.row there) c.index-as_slice-row.result read)
    (c.now.ensures ∙ sym runs.time) stood)

pub returns-in-Done-clause-runs : goal.returns-in-Done-clause-runs
returns-in-Done-clause-runs g c = λ P runs. c.say_done.ensures.runs c.args.spec.now P runs

pub returns-in-Done-clause-stands : goal.returns-in-Done-clause-stands
returns-in-Done-clause-stands g c = λ P b runs stood.
    let there = sym c.attempt.ensures ∙ c.in-Some.is in
    let within = command_within c.args.spec.now P c.args.running.now runs c.args.n.0 c.in-Some.row there in
    let read = read_there c.as_slice.result.now c.args.spec.now.cmds c.in-Some.row.place c.index-as_slice-row.result c.as_slice.ensures within c.index-as_slice-row.is in
    subst (λ (x : TimerSay). g.A.HostTemplate.stands c.timed_out.new.self c.args.spec.now b (timed_out c.args.n x ∷ P)) c.in-Done.is
    (c.timed_out.ensures.stands c.args.spec.now b P c.in-Some.row.command c.index-as_slice-row.result
    (fits_last c.args.spec.now P c.args.running.now runs c.args.n c.in-Some.row there (asked_busy c.args.spec.now P c.args.running.now runs c.args.n c.requires.asked c.in-Some.row there) c.index-as_slice-row.result read)
    (c.now.ensures ∙ sym runs.time) stood)
