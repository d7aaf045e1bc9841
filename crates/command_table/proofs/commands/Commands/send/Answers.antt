use Rattle.std.proofs.Common.{◌≡◌, ◌∙◌, sym, ap, refl, true, List, length}
use Rattle.std.specs.Prelude.{◌==◌, ◌&&◌, not, Bool}
use Rattle.trace_model.specs.declared.standing.Standing.TheVariants.{Waits, Busy}
use Rattle.trace_model.specs.Commands.{waits, is_busy}
use Rattle.command_table.specs.declared.line.Line.{Line}
use Rattle.command_table.specs.Rows.{is_open, waits_at}
use Rattle.command_table.specs.Sets.{has, out_of}
use Rattle.command_table.proofs.Entries.{reads_at, id_is, standing_is, open_isnt_ended, goes_on, own_place, written_sent, out_sent}
use Rattle.command_table.proofs.Waiting.{dropped, stands_there}
use Rattle.command_table.proofs.commands.Commands.send.Goals as goal

pub returns-clause-follows : goal.returns-clause-follows
returns-clause-follows c s P id is f =
    let old = c.args.self.now in
    let r = c.row-row.result in
    let at = c.row-row.ensures in
    let kept = c.write.ensures in
    let was : r.standing ≡ Waits = standing_is c.args.place old.rows.items r Waits at c.requires.waits in
    let still : is_open r.standing ≡ true = ap is_open was in
    let own = own_place s P old f c.args.place r at still in
    let there : has old.waiting.items r.device r.order ≡ true = f.waiting r.device r.order ∙ stands_there old.rows.items old.taken.items c.args.place r at own (ap waits was) in
    rw (sym (id_is c.args.place old.rows.items r id at is))
    (goes_on s P _ old c.write.new.self c.args.place r _ f (record { at = at; rows = c.write.ensures.rows; id = refl; lane = refl; device = refl })
    (written_sent P r c.args.n c.args.tag (reads_at s P old f c.args.place r at) (open_isnt_ended r.standing still))
    refl still refl refl kept.cursors kept.taken (ap length kept.waiting ∙ c.send_from.ensures.count)
    (λ d j. ap (λ (ws : List Line). has ws d j) kept.waiting ∙ c.send_from.ensures.dropped d j
    ∙ ap (λ (b : Bool). not ((r.device == d) && (r.order == j)) && b) (f.waiting d j)
    ∙ ap (λ (b : Bool). not (b && ((r.device == d) && (r.order == j))) && waits_at old.rows.items old.taken.items d j) (sym (ap waits was))
    ∙ dropped old.rows.items old.taken.items c.args.place r (record r { standing = Busy c.args.n c.args.tag }) at f.placed own refl d j)
    (λ d. out_sent (is_busy r.standing) (r.device == d) (out_of old.waiting.items d) (out_of c.write.new.self.waiting.items d) (ap is_busy was)
    (ap (λ (ws : List Line). out_of ws d) kept.waiting ∙ c.send_from.ensures.out there d))
    kept.ended)
