use Rattle.std.proofs.Common.{◌≡◌, ◌∙◌, sym, ap, refl, ℕ, true, List, set, length, if◌then◌else◌, ◌+◌, ◌<◌, cond}
use Rattle.std.specs.Prelude.{◌==◌, ◌&&◌, ◌||◌, Bool}
use Rattle.trace_model.specs.declared.standing.Standing.TheVariants.{Waits}
use Rattle.trace_model.specs.Commands.{is_busy}
use Rattle.command_table.specs.declared.line.Line.{Line}
use Rattle.command_table.specs.Rows.{is_open}
use Rattle.command_table.specs.Sets.{has, out_of}
use Rattle.command_table.proofs.Entries.{reads_at, id_is, busy_is, busy_open, busy_waits, open_isnt_ended, goes_on, own_place, written_again, some_out, out_back}
use Rattle.command_table.proofs.Waiting.{added}
use Rattle.command_table.proofs.commands.Commands.again.Goals as goal

pub returns-clause-follows : goal.returns-clause-follows
returns-clause-follows c s P id is f =
    let old = c.args.self.now in
    let r = c.row-row.result in
    let at = c.row-row.ensures in
    let kept = c.write.ensures in
    let busy : is_busy r.standing ≡ true = busy_is c.args.place old.rows.items r at c.requires.busy in
    let still : is_open r.standing ≡ true = busy_open r.standing busy in
    let some : 0 < out_of old.waiting.items r.device = some_out s P old f c.args.place r at busy in
    rw (sym (id_is c.args.place old.rows.items r id at is))
    (goes_on s P _ old c.write.new.self c.args.place r _ f (record { at = at; rows = c.write.ensures.rows ∙ ap (λ (n : ℕ). set old.rows.items c.args.place (record r { standing = Waits; retries = n })) c.counted_on-retries.ensures; id = refl; lane = refl; device = refl })
    (written_again P r c.args.counted (reads_at s P old f c.args.place r at) (open_isnt_ended r.standing still))
    refl still refl refl kept.cursors kept.taken (ap length kept.waiting ∙ c.put_back.ensures.count)
    (λ d j. ap (λ (ws : List Line). has ws d j) kept.waiting ∙ c.put_back.ensures.put some d j
    ∙ ap (λ (b : Bool). ((r.device == d) && (r.order == j)) || b) (f.waiting d j)
    ∙ added old.rows.items old.taken.items c.args.place r (record r { standing = Waits; retries = if c.args.counted then r.retries + 1 else r.retries }) at f.placed (own_place s P old f c.args.place r at still)
    (busy_waits r.standing busy) refl refl d j)
    (λ d. out_back (is_busy r.standing) (r.device == d) (out_of old.waiting.items d) (out_of c.write.new.self.waiting.items d) busy
    (ap (λ (ws : List Line). out_of ws d + cond (r.device == d) 1 0) kept.waiting ∙ c.put_back.ensures.out some d))
    kept.ended)
