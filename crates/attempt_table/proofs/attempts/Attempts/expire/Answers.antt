use Rattle.std.proofs.Common.{refl, ap, sym, ◌∙◌, arith}
use Rattle.attempt_table.specs.Rows.{expired, tag_in, Becomes}
use Rattle.attempt_table.proofs.Listed.{listed_still}
use Rattle.attempt_table.proofs.Moves.{says_due}
use Rattle.attempt_table.proofs.attempts.Attempts.expire.Goals as goal

pub returns-in-Some-clause-tells : goal.returns-in-Some-clause-tells
returns-in-Some-clause-tells c = λ s P tells.
    let t = c.args.self.now in
    let found = sym c.row.ensures ∙ c.in-Some.is in
    let h : Becomes c.args.n.0 expired t.rows.items c.write.new.rows.items = record { row = c.in-Some.row; was = found; is = c.write.ensures } in
    let tag = ap tag_in found in (
      rw (c.claim.ensures.claims, ← tag)
          (says_due s P t.rows.items t.tags.items t.kept.items t.claims.items t.lates.items tells.0 c.args.n c.write.new.rows.items h c.requires.open c.requires.in_time),
      omega (arith, c.claim.ensures.count, c.requires.room.lates),
      listed_still t.rows.items t.owned.items tells.2 c.args.n.0 expired c.write.new.rows.items h refl,
      omega (arith, c.claim.ensures.count, c.requires.room.owned),
    )
