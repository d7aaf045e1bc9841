use Rattle.std.proofs.Common.{◌≡◌, ℕ, replicate, ap, ◌∙◌, arith}
use Rattle.mid_base.specs.declared.answers.TagState.{TagState}
use Rattle.mid_base.specs.declared.answers.TagState.TheVariants.{Free}
use Rattle.attempt_table.proofs.Listed.{listed_none}
use Rattle.attempt_table.proofs.Queries.{says_nothing}
use Rattle.attempt_table.proofs.attempts.Attempts.new.Goals as goal

pub returns : goal.returns
returns c = λ s same.
    let ended : c.loop-i.i ≡ s.can_queue = omega (arith, same) in (
      rw (c.new.ensures.items, c.new-2.ensures.items, c.new-3.ensures.items)
          (says_nothing s c.loop-i.tags.items c.loop-i.kept.items (c.loop-i.invariant.0 ∙ ap (λ (n : ℕ). replicate {A = TagState} n Free) ended) (c.loop-i.invariant.1 ∙ ended)),
      omega (arith, c.new-2.ensures.len, c.new-3.ensures.len),
      rw (c.new.ensures.items, c.new-4.ensures.items) listed_none,
      omega (arith, c.new-2.ensures.len, c.new-4.ensures.len),
    )
