use Rattle.std.proofs.Common.{◌≡◌, ◌<◌, ◌≤◌, ◌+◌, ◌/◌, ℕ, length}
use Rattle.tag_pool.specs.Words.{bit_of}
use Rattle.tag_pool.proofs.tags.Tags.new.Given as goal

abbrev pub invariant-loop-t : goal.invariant-loop-t
invariant-loop-t l =
    (length l.free.items ≡ l.tags / 64 + 1) × ((k : ℕ) → k < l.t → bit_of k l.free.items ≡ 1) × ((k : ℕ) → l.t ≤ k → bit_of k l.free.items ≡ 0)
