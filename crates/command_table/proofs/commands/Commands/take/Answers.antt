use Rattle.std.proofs.Common.{◌≡◌, ◌∙◌, sym, ap, subst, refl, ℕ, List, ◌∷◌, [], ◌++◌, set, length, ◌<◌, Some}
use Rattle.std.proofs.lemmas.List.{length-set}
use Rattle.std.specs.Prelude.{◌==◌, ◌&&◌, ◌||◌, Bool, slice_get}
use Rattle.std.proofs.lemmas.Option.{slice_get_within}
use Rattle.mid_base.specs.declared.entries.Entry.TheVariants as entry
use Rattle.trace_model.specs.declared.standing.Standing.TheVariants.{New, Waits}
use Rattle.trace_model.specs.Commands.{is_new}
use Rattle.command_table.specs.declared.rows.CommandRow.{CommandRow}
use Rattle.command_table.specs.declared.rows.Taken.{Taken}
use Rattle.command_table.specs.Rows.{is_ended, first_left, ids_of, waits_at}
use Rattle.command_table.specs.Sets.{has, out_of}
use Rattle.command_table.specs.declared.line.Line.{Line}
use Rattle.command_table.proofs.Waiting.{newly_taken}
use Rattle.command_table.proofs.commands.Commands.take.Goals as goal
use Rattle.command_table.proofs.Entries.{Changes, reads_at, id_is, standing_is, handed_in, count_as, same_table, at_err, written_took, ids_push, ordered_taken, placed_taken, passed, pointed_on}

pub returns-clause-follows : goal.returns-clause-follows
returns-clause-follows c s P id is f =
    let old = c.args.self.now in
    let r = c.row-row.result in
    let at = c.row-row.ensures in
    let was : r.standing ≡ New = standing_is c.args.place old.rows.items r New at c.requires.fresh in
    let rest = c.pass.ensures in
    let kept = c.write.ensures in
    let q : CommandRow = record r { standing = Waits; order = length old.taken.items } in
    let order : length c.as_slice-order.result.now ≡ length old.taken.items = ap length c.as_slice-order.ensures.value in
    let rows : c.pass.new.self.rows.items ≡ set old.rows.items c.args.place q =
    rest.rows ∙ kept.rows ∙ ap (λ (n : ℕ). set old.rows.items c.args.place (record r { standing = Waits; order = n })) order
    in
    let taken : c.pass.new.self.taken.items ≡ old.taken.items ++ record { place = c.args.place; command = r.id } ∷ [] =
    rest.taken ∙ kept.taken ∙ c.push_reserved.ensures.items ∙ ap (λ (xs : List Taken). xs ++ record { place = c.args.place; command = r.id } ∷ []) c.reserve.ensures.items
    in
    let rows_then : c.write.new.self.rows.items ≡ set old.rows.items c.args.place q = kept.rows ∙ ap (λ (n : ℕ). set old.rows.items c.args.place (record r { standing = Waits; order = n })) order in
    let cursor_there : slice_get old.cursors.items r.lane.0 ≡ Some (first_left r.lane.0 old.rows.items) = f.pointed r.lane.0 (f.lanes c.args.place r at) in
    let ch : Changes old c.pass.new.self c.args.place r q = record { at = at; rows = rows; id = refl; lane = refl; device = refl } in
    let reads = reads_at s P old f c.args.place r at in
    rw (sym (id_is c.args.place old.rows.items r id at is))
    (handed_in s P old c.pass.new.self c.args.place r q f ch (entry.Took r.id ∷ P)
    (written_took P r (length old.taken.items) reads (ap is_ended was))
    (ap (λ (ns : List ℕ). ns ++ r.id.0 ∷ []) f.order ∙ sym (ids_push old.taken.items (record { place = c.args.place; command = r.id })) ∙ ap ids_of (sym taken))
    (ap is_new was) refl refl
    (rw (rows, taken) (ordered_taken old.rows.items old.taken.items c.args.place r at f.ordered))
    (rw (rows, taken) (placed_taken old.rows.items old.taken.items c.args.place r at (ap is_new was) f.placed))
    (pointed_on old.cursors.items c.write.new.self.cursors.items c.pass.new.self.cursors.items r.lane.0 c.write.new.self.rows.items c.pass.new.self.rows.items kept.cursors rest.rows
    (rest.cursors (subst (λ (ns : List ℕ). r.lane.0 < length ns) (sym kept.cursors) (slice_get_within old.cursors.items r.lane.0 (first_left r.lane.0 old.rows.items) cursor_there))
    (subst (λ (n : ℕ). c.args.place < n) (sym (ap length (rows_then) ∙ length-set old.rows.items c.args.place q)) (slice_get_within old.rows.items c.args.place r at))
    (rw (rows_then) (passed old.rows.items c.args.place r q at c.requires.first refl))))
    (ap length (rest.waiting ∙ kept.waiting) ∙ c.put.ensures.count)
    (λ d j. ap (λ (ws : List Line). has ws d j) (rest.waiting ∙ kept.waiting) ∙ c.in_ok-put.ensures.ok d j
    ∙ ap (λ (n : ℕ). ((r.device == d) && (n == j)) || has old.waiting.items d j) order
    ∙ ap (λ (b : Bool). ((r.device == d) && (length old.taken.items == j)) || b) (f.waiting d j)
    ∙ newly_taken old.rows.items old.taken.items c.args.place r q at f.placed (ap is_new was) refl refl d j
    ∙ sym (ap (λ (rs : List CommandRow). waits_at rs c.pass.new.self.taken.items d j) rows ∙ ap (λ (xs : List Taken). waits_at (set old.rows.items c.args.place q) xs d j) taken))
    (λ d. ap (λ (ws : List Line). out_of ws d) (rest.waiting ∙ kept.waiting) ∙ c.put.ensures.out d)
    (count_as old c.pass.new.self c.args.place r q ch f.ended (ap is_ended was) refl (rest.ended ∙ kept.ended)))

pub returns-in_err-put-clause-same : goal.returns-in_err-put-clause-same
returns-in_err-put-clause-same c =
    at_err c.from_residual-in_err-put.result (λ s P f.
    same_table s P c.args.self.now _ refl refl c.reserve.ensures.items c.put.ensures.count c.in_err-put.ensures.err c.put.ensures.out refl f)

pub write-requires : goal.write-requires
write-requires c = slice_get_within c.args.self.now.rows.items c.args.place c.row-row.result c.row-row.ensures
