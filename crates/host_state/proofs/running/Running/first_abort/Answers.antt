use Rattle.std.proofs.Common.{◌≡◌, ◌∙◌, sym, ap, Some}
use Rattle.std.proofs.lemmas.Option.{same_Some, none-some}
use Rattle.mid_base.specs.declared.names.CmdId.{CmdId}
use Rattle.attempt_table.specs.declared.rows.Row.{Row}
use Rattle.host_state.proofs.Aborts.{aborting_first}
use Rattle.host_state.proofs.running.Running.first_abort.Goals as goal

pub returns-in_default-row : goal.returns-in_default-row
returns-in_default-row c = λ s P r.
    let it = aborting_first s P c.args.self.now r (c.in-Some.field-0-0, c.in-Some.attempt) (sym c.in-Some.ensures.first) in
    absurd (none-some it.row (sym c.in_default-row.is ∙ c.row.ensures ∙ it.at))

pub returns : goal.returns
returns c = λ s P r.
    let it = aborting_first s P c.args.self.now r (c.in-Some.field-0-0, c.in-Some.attempt) (sym c.in-Some.ensures.first) in
    let is : it.row ≡ c.in-Some-row.row = same_Some it.row c.in-Some-row.row (sym it.at ∙ sym c.row.ensures ∙ c.in-Some-row.is) in
    let of : c.in-Some-row.row.command ≡ c.in-Some.field-0-0 = ap (λ (x : Row). x.command) (sym is) ∙ it.of in
    let told = c.in-Some.ensures.tells s P r.failures in
    record {
      first = told.0;
      sent = told.1 ∙ ap (λ (x : CmdId). x.0) (sym of);
      waits = sym c.in-Some.ensures.first ∙ ap (λ (x : CmdId). Some (x, c.in-Some.attempt)) (sym of);
      at = sym c.row.ensures ∙ c.in-Some-row.is;
    }
