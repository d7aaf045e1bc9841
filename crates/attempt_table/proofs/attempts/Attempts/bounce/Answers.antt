use Rattle.std.proofs.Common.{ap, sym, ◌∙◌}
use Rattle.attempt_table.specs.Rows.{turned_away, tag_in, just_sent_in, Becomes}
use Rattle.attempt_table.proofs.Listed.{fresh_still, listed_still}
use Rattle.attempt_table.proofs.Moves.{says_bounced}
use Rattle.attempt_table.proofs.attempts.Attempts.bounce.Goals as goal

pub returns-in-Some-clause-tells : goal.returns-in-Some-clause-tells
returns-in-Some-clause-tells c = λ s P k why tells.
    let t = c.args.self.now in
    let found = sym c.row.ensures ∙ c.in-Some.is in
    let h : Becomes c.args.n.0 turned_away t.rows.items c.write.new.rows.items = record { row = c.in-Some.row; was = found; is = c.write.ensures } in
    let tag = ap tag_in found in (
      rw (c.show.ensures, ← tag)
          (says_bounced s P t.rows.items t.tags.items t.kept.items t.claims.items t.lates.items tells.0 k c.args.n why c.write.new.rows.items h c.requires),
      tells.1,
      listed_still t.rows.items t.owned.items tells.2 c.args.n.0 turned_away c.write.new.rows.items h (fresh_still c.in-Some.row (sym (ap just_sent_in found) ∙ c.requires)),
      tells.3,
    )
