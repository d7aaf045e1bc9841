use Rattle.std.proofs.Common.{Option, ap, ◌∙◌}
use Rattle.mid_base.specs.declared.answers.By.{By}
use Rattle.report_text.specs.Numbered.{at}
use Rattle.report_text.specs.Tables.{next_row}
use Rattle.report_text.specs.declared.gather.Row.{Row}
use Rattle.report_text.proofs.Rows.{noted}
use Rattle.report_text.proofs.gather.note_row.Goals as goal

pub returns : goal.returns
returns c = λ P rows owned here.
    let e = c.args.e.now in
    let place = c.args.place in
    let owners = c.args.owners.now in
    noted c.args.rows.now c.put.new.self owners P e c.in-Some.c place c.row_after-row.result rows owned here (λ q. c.in-Some.ensures q)
    (c.row_after-row.ensures
    ∙ (ap (λ (by : Option By). next_row c.row_in-row.result by place e) c.get.ensures ∙ ap (λ (r : Row). next_row r (at owners r.attempt) place e) c.row_in-row.ensures))
    (λ q. c.in_ok-put.ensures q)
