use Rattle.std.proofs.Common.{◌≡◌, ◌∙◌, sym, ap, refl, true, List, length, ◌+◌, cond}
use Rattle.command_table.specs.declared.line.Line.{Line}
use Rattle.command_table.specs.Rows.{is_open, is_out}
use Rattle.command_table.specs.Sets.{has, out_of}
use Rattle.command_table.proofs.Entries.{reads_at, id_is, busy_is, busy_open, goes_on, written_abort}
use Rattle.command_table.proofs.Waiting.{stays}
use Rattle.command_table.proofs.commands.Commands.schedule_abort.Goals as goal

pub returns-clause-follows : goal.returns-clause-follows
returns-clause-follows c s P id n is f =
    let old = c.args.self.now in
    let r = c.row-row.result in
    let at = c.row-row.ensures in
    let kept = c.write.ensures in
    let still : is_open r.standing ≡ true = busy_open r.standing (busy_is c.args.place old.rows.items r at c.requires.busy) in
    rw (sym (id_is c.args.place old.rows.items r id at is))
    (goes_on s P _ old c.write.new.self c.args.place r _ f (record { at = at; rows = c.write.ensures.rows; id = refl; lane = refl; device = refl })
    (written_abort P r n (reads_at s P old f c.args.place r at))
    refl still still refl kept.cursors kept.taken (ap length kept.waiting)
    (λ d j. ap (λ (ws : List Line). has ws d j) kept.waiting ∙ f.waiting d j
    ∙ stays old.rows.items old.taken.items c.args.place r (record r { aborted = true }) at f.placed refl refl d j)
    (λ d. ap (λ (ws : List Line). out_of ws d + cond (is_out d r) 1 0) kept.waiting)
    kept.ended)
