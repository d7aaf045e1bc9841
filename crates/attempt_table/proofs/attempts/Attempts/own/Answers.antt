use Rattle.std.proofs.Common.{◌≡◌, ◌-◌, true, false, length, vec_len, refl, ap, sym, ◌∙◌, arith}
use Rattle.std.specs.Prelude.{slice_set}
use Rattle.attempt_table.specs.declared.rows.Row.{Row}
use Rattle.attempt_table.specs.Rows.{row_of, given_to, tag_in, is_unwanted, claims_by, Becomes}
use Rattle.attempt_table.specs.Claims.{claims_without}
use Rattle.attempt_table.proofs.Shown.{some_claim, claimed_is_armed}
use Rattle.attempt_table.proofs.Changes.{claims_fewer}
use Rattle.attempt_table.proofs.Listed.{listed_more, claimed_row}
use Rattle.attempt_table.proofs.Moves.{says_owned, later}
use Rattle.attempt_table.proofs.attempts.Attempts.own.Goals as goal

pub push_reserved-requires : goal.push_reserved-requires
push_reserved-requires c =
    let t = c.args.self.now in
    let tied = c.requires.tied in
    let found = sym c.row.ensures ∙ c.in-Some.is in
    let fewer = claims_fewer tied.spec tied.entries t.rows.items t.tags.items t.kept.items t.claims.items t.lates.items tied.agrees.0 c.args.n.0 c.in-Some.row found in
    let some = some_claim c.args.n.0 c.args.by (row_of c.args.n.0 t.rows.items) c.requires.waits in
    let count : vec_len t.claims ≡ length t.claims.items = t.claims.ok.0 in
    omega (arith, fewer, some, count, tied.agrees.3)

pub push_reserved-requires-then-is_unwanted : goal.push_reserved-requires-then-is_unwanted
push_reserved-requires-then-is_unwanted c =
    let t = c.args.self.now in
    let tied = c.requires.tied in
    let found = sym c.row.ensures ∙ c.in-Some.is in
    let fewer = claims_fewer tied.spec tied.entries t.rows.items t.tags.items t.kept.items t.claims.items t.lates.items tied.agrees.0 c.args.n.0 c.in-Some.row found in
    let some = some_claim c.args.n.0 c.args.by (row_of c.args.n.0 t.rows.items) c.requires.waits in
    let count : vec_len t.claims ≡ length t.claims.items = t.claims.ok.0 in
    omega (arith, fewer, some, count, tied.agrees.1)

pub returns-then-is_unwanted-clause-tells : goal.returns-then-is_unwanted-clause-tells
returns-then-is_unwanted-clause-tells c = λ s P tells.
    let t = c.args.self.now in
    let found = sym c.row.ensures ∙ c.in-Some.is in
    let is = c.write.ensures ∙ ap (λ (r : Row). slice_set t.rows.items (c.args.n.0 - 1) r) c.given_to.ensures in
    let h : Becomes c.args.n.0 (given_to c.args.by) t.rows.items c.write.new.rows.items = record { row = c.in-Some.row; was = found; is = is } in
    let tag = ap tag_in found in
    let unwanted : is_unwanted c.args.by c.in-Some.row ≡ true = sym c.is_unwanted.ensures ∙ c.if-is_unwanted.true in
    let lates : later s P t.rows.items t.tags.items t.kept.items t.claims.items t.lates.items tells.0 (is_unwanted c.args.by c.in-Some.row) c.args.n.0 ≡ c.push_reserved-then-is_unwanted.new.self.items =
    rw unwanted (sym c.push_reserved-then-is_unwanted.ensures.items)
    in
    let fewer = claims_fewer s P t.rows.items t.tags.items t.kept.items t.claims.items t.lates.items tells.0 c.args.n.0 c.in-Some.row found in
    let some = some_claim c.args.n.0 c.args.by (row_of c.args.n.0 t.rows.items) c.requires.waits in
    let before : vec_len t.claims ≡ length t.claims.items = t.claims.ok.0 in
    let after : vec_len c.unclaim.new.claims ≡ length c.unclaim.new.claims.items = c.unclaim.new.claims.ok.0 in
    let left : length c.unclaim.new.claims.items ≡ length (claims_without c.args.n.0 t.claims.items) = ap length c.unclaim.ensures.claims in (
      rw (c.show.ensures, ← tag, c.unclaim.ensures.claims, ← lates)
          (says_owned s P t.rows.items t.tags.items t.kept.items t.claims.items t.lates.items tells.0 c.args.n c.args.by c.write.new.rows.items h c.requires.waits),
      omega (arith, tells.1, fewer, some, before, after, left, c.push_reserved-then-is_unwanted.ensures.len, c.push_reserved-then-is_unwanted.ensures.capacity),
      rw c.push_reserved.ensures.items
          (listed_more t.rows.items t.owned.items tells.2 c.args.n.0 (given_to c.args.by) c.write.new.rows.items h (claimed_row c.args.by c.in-Some.row (sym (ap (claims_by c.args.by) found) ∙ c.requires.waits)) refl),
      omega (arith, tells.3, fewer, some, before, after, left, c.push_reserved.ensures.len, c.push_reserved.ensures.capacity),
    )

pub returns-then-is_unwanted-clause-armed : goal.returns-then-is_unwanted-clause-armed
returns-then-is_unwanted-clause-armed c =
    let t = c.args.self.now in
    let tied = c.requires.tied in
    claimed_is_armed tied.spec tied.entries t.rows.items t.tags.items t.kept.items t.claims.items t.lates.items tied.agrees.0 c.args.n.0 c.args.by c.requires.waits

pub returns-else-is_unwanted-clause-tells : goal.returns-else-is_unwanted-clause-tells
returns-else-is_unwanted-clause-tells c = λ s P tells.
    let t = c.args.self.now in
    let found = sym c.row.ensures ∙ c.in-Some.is in
    let is = c.write.ensures ∙ ap (λ (r : Row). slice_set t.rows.items (c.args.n.0 - 1) r) c.given_to.ensures in
    let h : Becomes c.args.n.0 (given_to c.args.by) t.rows.items c.write.new.rows.items = record { row = c.in-Some.row; was = found; is = is } in
    let tag = ap tag_in found in
    let wanted : is_unwanted c.args.by c.in-Some.row ≡ false = sym c.is_unwanted.ensures ∙ c.if-is_unwanted.false in
    let lates : later s P t.rows.items t.tags.items t.kept.items t.claims.items t.lates.items tells.0 (is_unwanted c.args.by c.in-Some.row) c.args.n.0 ≡ t.lates.items = rw wanted refl in
    let fewer = claims_fewer s P t.rows.items t.tags.items t.kept.items t.claims.items t.lates.items tells.0 c.args.n.0 c.in-Some.row found in
    let some = some_claim c.args.n.0 c.args.by (row_of c.args.n.0 t.rows.items) c.requires.waits in
    let before : vec_len t.claims ≡ length t.claims.items = t.claims.ok.0 in
    let after : vec_len c.unclaim.new.claims ≡ length c.unclaim.new.claims.items = c.unclaim.new.claims.ok.0 in
    let left : length c.unclaim.new.claims.items ≡ length (claims_without c.args.n.0 t.claims.items) = ap length c.unclaim.ensures.claims in (
      rw (c.show.ensures, ← tag, c.unclaim.ensures.claims, ← lates)
          (says_owned s P t.rows.items t.tags.items t.kept.items t.claims.items t.lates.items tells.0 c.args.n c.args.by c.write.new.rows.items h c.requires.waits),
      omega (arith, tells.1, c.unclaim.ensures.count),
      rw c.push_reserved.ensures.items
          (listed_more t.rows.items t.owned.items tells.2 c.args.n.0 (given_to c.args.by) c.write.new.rows.items h (claimed_row c.args.by c.in-Some.row (sym (ap (claims_by c.args.by) found) ∙ c.requires.waits)) refl),
      omega (arith, tells.3, fewer, some, before, after, left, c.push_reserved.ensures.len, c.push_reserved.ensures.capacity),
    )

pub returns-else-is_unwanted-clause-armed : goal.returns-else-is_unwanted-clause-armed
returns-else-is_unwanted-clause-armed c =
    let t = c.args.self.now in
    let tied = c.requires.tied in
    claimed_is_armed tied.spec tied.entries t.rows.items t.tags.items t.kept.items t.claims.items t.lates.items tied.agrees.0 c.args.n.0 c.args.by c.requires.waits
