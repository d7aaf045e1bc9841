use Rattle.std.proofs.Common.{◌≡◌, ◌<◌, ◌≤◌, ℕ, true}
use Rattle.tag_pool.specs.Tags.{is_out}
use Rattle.tag_pool.proofs.tests.give_each.Given as goal

abbrev pub invariant-loop-tag : goal.invariant-loop-tag
invariant-loop-tag l = (k : ℕ) → l.tag ≤ k → k < l.count → is_out k l.pool.tags ≡ true
