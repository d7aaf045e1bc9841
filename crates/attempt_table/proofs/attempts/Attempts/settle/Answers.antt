use Rattle.std.proofs.Common.{ap, sym, ◌∙◌, arith}
use Rattle.attempt_table.specs.Rows.{row_of, at_end, open_in, owned_in, tag_in, Becomes}
use Rattle.attempt_table.proofs.Bools.{or_second}
use Rattle.attempt_table.proofs.Shown.{live_is_shown}
use Rattle.attempt_table.proofs.Listed.{listed_less, ended_row}
use Rattle.attempt_table.proofs.Moves.{says_settled}
use Rattle.attempt_table.proofs.attempts.Attempts.settle.Goals as goal

pub returns-in-Some-clause-tells : goal.returns-in-Some-clause-tells
returns-in-Some-clause-tells c = λ s P e of tells.
    let t = c.args.self.now in
    let found = sym c.row.ensures ∙ c.in-Some.is in
    let h : Becomes c.args.n.0 at_end t.rows.items c.write.new.rows.items = record { row = c.in-Some.row; was = found; is = c.write.ensures } in
    let tag = ap tag_in found in (
      rw (c.show.ensures, ← tag)
          (says_settled s P t.rows.items t.tags.items t.kept.items t.claims.items t.lates.items tells.0 c.args.n.0 e c.write.new.rows.items of h c.requires),
      tells.1,
      listed_less t.rows.items t.owned.items tells.2 c.args.n.0 at_end c.write.new.rows.items h c.drop_one.new.numbers.items c.drop_one.ensures.numbers (sym (ap owned_in found) ∙ c.requires) (ended_row c.in-Some.row),
      omega (arith, tells.3, c.drop_one.ensures.count, c.drop_one.ensures.capacity),
    )

pub returns-in-Some-clause-owned : goal.returns-in-Some-clause-owned
returns-in-Some-clause-owned c = λ s P tells.
    let t = c.args.self.now in
    let x = row_of c.args.n.0 t.rows.items in
    live_is_shown s P t.rows.items t.tags.items t.kept.items t.claims.items t.lates.items tells.0 c.args.n.0 (or_second (open_in x) (owned_in x) c.requires)
