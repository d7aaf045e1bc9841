use Rattle.std.proofs.Common.{◌≡◌, ◌<◌, ◌∙◌, sym, ap, subst, refl, length, true, false, Bool, None, ◌∷◌, arith}
use Rattle.std.proofs.lemmas.Option.{same_Some}
use Rattle.mid_base.specs.declared.entries.Entry.TheVariants as entry
use Rattle.command_table.specs.declared.rows.CommandRow.{CommandRow}
use Rattle.trace_model.specs.Judging.{may_retry}
use Rattle.host_state.specs.HostAgrees.{HostAgrees}
use Rattle.mid_core.specs.Choices.{after_abort}
use Rattle.mid_core.proofs.Known.{device_within}
use Rattle.mid_core.proofs.Judged.{place_within, command_within, few_allowed, retry_is, goes_again, has_retries, is_told}
use Rattle.mid_core.proofs.Offered.{read_there}
use Rattle.mid_core.proofs.aborting.settle_aborted.Goals as goal

pub returns-then-not-ok-clause-runs : goal.returns-then-not-ok-clause-runs
returns-then-not-ok-clause-runs c = λ P runs.
    subst (λ (b : Bool). HostAgrees c.args.spec.now (entry.Failed c.args.row.command c.args.n true ∷ entry.Aborted c.args.row.command c.args.n b ∷ P) c.fail_aborted.new.self)
    (sym c.if-not-ok.true) (c.fail_aborted.ensures.runs c.args.spec.now P runs)

pub bounds-as_slice-row : goal.bounds-as_slice-row
bounds-as_slice-row c =
    let within = command_within c.args.spec.now c.requires.runs.0 c.args.running.now c.requires.runs.1 c.args.n.0 c.args.row c.requires.first.at in
    omega (arith, ap length c.as_slice.ensures)

pub offset_bounds-as_slice-row : goal.offset_bounds-as_slice-row
offset_bounds-as_slice-row c =
    let within = command_within c.args.spec.now c.requires.runs.0 c.args.running.now c.requires.runs.1 c.args.n.0 c.args.row c.requires.first.at in
    omega (arith, ap length c.as_slice.ensures)

pub command-kept-requires : goal.command-kept-requires
command-kept-requires c = place_within c.args.spec.now c.requires.runs.0 c.args.running.now c.requires.runs.1 c.args.n.0 c.args.row c.requires.first.at

pub device_state-state-requires : goal.device_state-state-requires
device_state-state-requires c =
    device_within c.args.spec.now c.requires.runs.0 c.args.running.now c.requires.runs.1 c.args.row.place c.command-kept.result c.command-kept.ensures

pub retry_aborted-requires-clause-few : goal.retry_aborted-requires-clause-few
retry_aborted-requires-clause-few c = λ x at.
    let first = c.requires.first in
    let within = command_within c.args.spec.now c.requires.runs.0 c.args.running.now c.requires.runs.1 c.args.n.0 c.args.row first.at in
    let read = read_there c.as_slice.result.now c.args.spec.now.cmds c.args.row.place c.index-as_slice-row.result c.as_slice.ensures within c.index-as_slice-row.is in
    let k = c.index-as_slice-row.result in
    let kept = c.command-kept.result in
    let says = sym c.verdict.ensures ∙ c.in-Again.is in
    let few = few_allowed c.args.spec.now c.requires.runs.1.limits c.args.row.place k read in
    let same : kept ≡ x = same_Some kept x (sym c.command-kept.ensures ∙ at) in
    let fewer : kept.retries < k.allowed = has_retries k kept.retries c.device_state-state.result None says in
    omega (arith, few, fewer, ap (λ (r : CommandRow). r.retries) same)

pub returns-in-Again-clause-entry : goal.returns-in-Again-clause-entry
returns-in-Again-clause-entry c = λ P runs.
    let first = c.requires.first in
    let within = command_within c.args.spec.now P c.args.running.now runs c.args.n.0 c.args.row first.at in
    let read = read_there c.as_slice.result.now c.args.spec.now.cmds c.args.row.place c.index-as_slice-row.result c.as_slice.ensures within c.index-as_slice-row.is in
    let k = c.index-as_slice-row.result in
    let kept = c.command-kept.result in
    let says = sym c.verdict.ensures ∙ c.in-Again.is in
    let may : may_retry c.args.spec.now P c.args.row.command.0 ≡ true =
    retry_is c.args.spec.now P c.args.running.now runs c.args.n.0 c.args.row first.at kept c.command-kept.ensures k c.device_state-state.result read c.device_state-state.ensures
    ∙ goes_again k kept.retries c.device_state-state.result None says
    in
    subst (λ (b : Bool). entry.Again c.args.row.command true ≡ after_abort c.args.spec.now P c.args.row.command c.args.n b) (sym c.if-not-ok.false) (rw may refl)

pub returns-in-Again-clause-runs : goal.returns-in-Again-clause-runs
returns-in-Again-clause-runs c = λ P runs.
    subst (λ (b : Bool). HostAgrees c.args.spec.now (entry.Again c.args.row.command true ∷ entry.Aborted c.args.row.command c.args.n b ∷ P) c.retry_aborted.new.self)
    (sym c.if-not-ok.false) (c.retry_aborted.ensures.runs c.args.spec.now P runs)

pub returns-in-Told-clause-entry : goal.returns-in-Told-clause-entry
returns-in-Told-clause-entry c = λ P runs.
    let first = c.requires.first in
    let within = command_within c.args.spec.now P c.args.running.now runs c.args.n.0 c.args.row first.at in
    let read = read_there c.as_slice.result.now c.args.spec.now.cmds c.args.row.place c.index-as_slice-row.result c.as_slice.ensures within c.index-as_slice-row.is in
    let k = c.index-as_slice-row.result in
    let kept = c.command-kept.result in
    let says = sym c.verdict.ensures ∙ c.in-Told.is in
    let told = is_told k kept.retries c.device_state-state.result c.in-Told.answer says in
    let may : may_retry c.args.spec.now P c.args.row.command.0 ≡ false =
    retry_is c.args.spec.now P c.args.running.now runs c.args.n.0 c.args.row first.at kept c.command-kept.ensures k c.device_state-state.result read c.device_state-state.ensures ∙ told.0
    in
    subst (λ (b : Bool). entry.Told c.args.row.command c.in-Told.answer ≡ after_abort c.args.spec.now P c.args.row.command c.args.n b) (sym c.if-not-ok.false)
    (rw may (ap (entry.Told c.args.row.command) told.1))

pub returns-in-Told-clause-runs : goal.returns-in-Told-clause-runs
returns-in-Told-clause-runs c = λ P runs.
    subst (λ (b : Bool). HostAgrees c.args.spec.now (entry.Told c.args.row.command c.in-Told.answer ∷ entry.Aborted c.args.row.command c.args.n b ∷ P) c.report_aborted.new.self)
    (sym c.if-not-ok.false) (c.report_aborted.ensures.runs c.args.spec.now P c.in-Told.answer runs)
