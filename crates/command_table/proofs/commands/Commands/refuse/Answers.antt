use Rattle.std.proofs.Common.{◌≡◌, ◌∙◌, sym, ap, subst, refl, ℕ, List, ◌∷◌, set, length, ◌+◌, ◌<◌, ◌^◌, Some}
use Rattle.std.proofs.lemmas.List.{length-set}
use Rattle.std.specs.Prelude.{slice_get, min, ◌-◌}
use Rattle.std.proofs.lemmas.Option.{slice_get_within}
use Rattle.mid_base.specs.declared.entries.Entry.TheVariants as entry
use Rattle.trace_model.specs.declared.standing.Standing.TheVariants.{New, Ended}
use Rattle.trace_model.specs.Commands.{is_new}
use Rattle.command_table.specs.declared.rows.CommandRow.{CommandRow}
use Rattle.command_table.specs.declared.rows.Taken.{Taken}
use Rattle.command_table.specs.Rows.{is_ended, first_left, ids_of, waits_at}
use Rattle.command_table.specs.Sets.{has, out_of}
use Rattle.command_table.specs.declared.line.Line.{Line}
use Rattle.std.proofs.lemmas.Bool.{false≢true}
use Rattle.command_table.proofs.Waiting.{refused}
use Rattle.command_table.proofs.commands.Commands.refuse.Goals as goal
use Rattle.command_table.proofs.Entries.{Changes, reads_at, id_is, standing_is, handed_in, counts_on, written_told, ordered_refused, placed_written, passed, pointed_on}

pub returns-clause-follows : goal.returns-clause-follows
returns-clause-follows c s P id a is f =
    let old = c.args.self.now in
    let r = c.row-row.result in
    let at = c.row-row.ensures in
    let was : r.standing ≡ New = standing_is c.args.place old.rows.items r New at c.requires.fresh in
    let rest = c.pass.ensures in
    let more = c.count_ended.ensures in
    let kept = c.write.ensures in
    let q : CommandRow = record r { standing = Ended } in
    let rows : c.pass.new.self.rows.items ≡ set old.rows.items c.args.place q = rest.rows ∙ more.rows ∙ kept.rows in
    let taken : c.pass.new.self.taken.items ≡ old.taken.items = rest.taken ∙ more.taken ∙ kept.taken in
    let rows_then : c.count_ended.new.self.rows.items ≡ set old.rows.items c.args.place q = more.rows ∙ kept.rows in
    let cursor_there : slice_get old.cursors.items r.lane.0 ≡ Some (first_left r.lane.0 old.rows.items) = f.pointed r.lane.0 (f.lanes c.args.place r at) in
    let ch : Changes old c.pass.new.self c.args.place r q = record { at = at; rows = rows; id = refl; lane = refl; device = refl } in
    let reads = reads_at s P old f c.args.place r at in
    let short : length old.rows.items < 2 ^ 64 = subst (λ (n : ℕ). n < 2 ^ 64) (ap length kept.rows ∙ length-set old.rows.items c.args.place q) more.short in
    rw (sym (id_is c.args.place old.rows.items r id at is))
    (handed_in s P old c.pass.new.self c.args.place r q f ch (entry.Told r.id a ∷ P)
    (written_told P r a reads)
    (f.order ∙ ap ids_of (sym taken))
    (ap is_new was) refl refl
    (rw (rows, taken) (ordered_refused old.rows.items old.taken.items c.args.place r at f.ordered))
    (rw (rows, taken) (placed_written old.rows.items old.taken.items c.args.place r q at refl (λ isnt. absurd (false≢true (sym isnt ∙ ap is_new was))) f.placed))
    (pointed_on old.cursors.items c.count_ended.new.self.cursors.items c.pass.new.self.cursors.items r.lane.0 c.count_ended.new.self.rows.items c.pass.new.self.rows.items (more.cursors ∙ kept.cursors) rest.rows
    (rest.cursors (subst (λ (ns : List ℕ). r.lane.0 < length ns) (sym (more.cursors ∙ kept.cursors)) (slice_get_within old.cursors.items r.lane.0 (first_left r.lane.0 old.rows.items) cursor_there))
    (subst (λ (n : ℕ). c.args.place < n) (sym (ap length (rows_then) ∙ length-set old.rows.items c.args.place q)) (slice_get_within old.rows.items c.args.place r at))
    (rw (rows_then) (passed old.rows.items c.args.place r q at c.requires.first refl))))
    (ap length (rest.waiting ∙ more.waiting ∙ kept.waiting))
    (λ d j. ap (λ (ws : List Line). has ws d j) (rest.waiting ∙ more.waiting ∙ kept.waiting) ∙ f.waiting d j
    ∙ refused old.rows.items old.taken.items c.args.place r q at f.placed (ap is_new was) d j
    ∙ sym (ap (λ (rs : List CommandRow). waits_at rs c.pass.new.self.taken.items d j) rows ∙ ap (λ (xs : List Taken). waits_at (set old.rows.items c.args.place q) xs d j) taken))
    (λ d. ap (λ (ws : List Line). out_of ws d) (rest.waiting ∙ more.waiting ∙ kept.waiting))
    (counts_on old c.pass.new.self c.args.place r q ch f.ended (ap is_ended was) refl short (rest.ended ∙ more.ended ∙ ap (λ (n : ℕ). min (n + 1) (2 ^ 64 - 1)) kept.ended)))
