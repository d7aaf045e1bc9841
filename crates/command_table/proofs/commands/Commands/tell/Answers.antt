use Rattle.std.proofs.Common.{◌≡◌, ◌∙◌, sym, ap, subst, refl, ℕ, true, List, length, ◌+◌, ◌<◌, ◌^◌, cond, inl, inr}
use Rattle.std.proofs.lemmas.Bool.{cases_Bool}
use Rattle.std.proofs.lemmas.List.{length-set}
use Rattle.std.specs.Prelude.{◌==◌, ◌&&◌, not, Bool, min, ◌-◌}
use Rattle.trace_model.specs.declared.standing.Standing.TheVariants.{Ended}
use Rattle.trace_model.specs.Commands.{waits, is_busy}
use Rattle.command_table.specs.declared.line.Line.{Line}
use Rattle.command_table.specs.declared.rows.CommandRow.{CommandRow}
use Rattle.command_table.specs.Rows.{is_open}
use Rattle.command_table.specs.Sets.{has, out_of}
use Rattle.command_table.proofs.Entries.{OutsMove, reads_at, id_is, open_is, reported, own_place, written_told, some_out, open_busy, waits_idle, out_kept, out_back}
use Rattle.command_table.proofs.Waiting.{dropped}
use Rattle.command_table.proofs.commands.Commands.tell.Goals as goal

pub returns-clause-follows : goal.returns-clause-follows
returns-clause-follows c s P id a is f =
    let old = c.args.self.now in
    let new = c.count_ended.new.self in
    let r = c.row-row.result in
    let at = c.row-row.ensures in
    let more = c.count_ended.ensures in
    let kept = c.write.ensures in
    let still : is_open r.standing ≡ true = open_is c.args.place old.rows.items r at c.requires.«open» in
    let q : CommandRow = record r { standing = Ended } in
    let outs : OutsMove old new r q = λ d.
    ap (λ (ws : List Line). out_of ws d + cond (is_busy r.standing && (r.device == d)) 1 0) (more.waiting ∙ kept.waiting)
    ∙ elim (cases_Bool (waits r.standing)) as (λ _. out_of c.drop_from.new.lines.items d + cond (is_busy r.standing && (r.device == d)) 1 0 ≡ out_of old.waiting.items d + 0) [
      | inl is_waiting ↦
          out_kept (is_busy r.standing) (r.device == d) (out_of old.waiting.items d) (out_of c.drop_from.new.lines.items d) (waits_idle r.standing is_waiting) (c.drop_from.ensures.waited is_waiting d)
      | inr isnt ↦
          let busy : is_busy r.standing ≡ true = open_busy r.standing still isnt in
          out_back (is_busy r.standing) (r.device == d) (out_of old.waiting.items d) (out_of c.drop_from.new.lines.items d) busy (c.drop_from.ensures.busy isnt (some_out s P old f c.args.place r at busy) d)
    ]
    in
    rw (sym (id_is c.args.place old.rows.items r id at is))
    (reported s P _ old new c.args.place r _ f (record { at = at; rows = more.rows ∙ kept.rows; id = refl; lane = refl; device = refl })
    (written_told P r a (reads_at s P old f c.args.place r at))
    refl still refl refl (more.cursors ∙ kept.cursors) (more.taken ∙ kept.taken) (ap length (more.waiting ∙ kept.waiting) ∙ c.drop_from.ensures.count)
    (λ d j. ap (λ (ws : List Line). has ws d j) (more.waiting ∙ kept.waiting) ∙ c.drop_from.ensures.dropped d j
    ∙ ap (λ (b : Bool). not (waits r.standing && ((r.device == d) && (r.order == j))) && b) (f.waiting d j)
    ∙ dropped old.rows.items old.taken.items c.args.place r q at f.placed (own_place s P old f c.args.place r at still) refl d j)
    outs
    (subst (λ (n : ℕ). n < 2 ^ 64) (ap length kept.rows ∙ length-set old.rows.items c.args.place q) more.short)
    (more.ended ∙ ap (λ (n : ℕ). min (n + 1) (2 ^ 64 - 1)) kept.ended))
