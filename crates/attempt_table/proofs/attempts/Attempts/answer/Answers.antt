use Rattle.std.proofs.Common.{refl, ap, sym, ◌∙◌, arith}
use Rattle.attempt_table.specs.Rows.{row_of, with_answer, tag_in, Becomes}
use Rattle.attempt_table.proofs.Listed.{listed_still}
use Rattle.attempt_table.proofs.Moves.{says_answered, says_stray}
use Rattle.attempt_table.proofs.Found.{wanting_is, wanting_none}
use Rattle.attempt_table.proofs.attempts.Attempts.answer.Goals as goal

pub returns-in-Some-clause-tells : goal.returns-in-Some-clause-tells
returns-in-Some-clause-tells c = λ s P tells.
    let t = c.args.self.now in
    let found = wanting_is (row_of c.args.n.0 t.rows.items) c.in-Some.row (sym c.wanting.ensures ∙ c.in-Some.is) in
    let h : Becomes c.args.n.0 with_answer t.rows.items c.write.new.rows.items = record { row = c.in-Some.row; was = found.0; is = c.write.ensures } in
    let tag = ap tag_in found.0 in (
      rw (c.keep.ensures, c.claim.ensures.claims, ← tag)
          (says_answered s P t.rows.items t.tags.items t.kept.items t.claims.items t.lates.items tells.0 c.args.n c.args.a c.write.new.rows.items h found.1),
      omega (arith, c.claim.ensures.count, c.requires.lates),
      listed_still t.rows.items t.owned.items tells.2 c.args.n.0 with_answer c.write.new.rows.items h refl,
      omega (arith, c.claim.ensures.count, c.requires.owned),
    )

pub returns-in-None-clause-tells : goal.returns-in-None-clause-tells
returns-in-None-clause-tells c = λ s P tells.
    let t = c.args.self.now in
    let un = wanting_none (row_of c.args.n.0 t.rows.items) (sym c.wanting.ensures ∙ c.in-None.is) in (
      rw c.push_reserved.ensures.items
          (says_stray s P t.rows.items t.tags.items t.kept.items t.claims.items t.lates.items tells.0 c.args.n c.args.a un),
      omega (arith, c.push_reserved.ensures.len, c.push_reserved.ensures.capacity, c.requires.lates),
      tells.2,
      tells.3,
    )
