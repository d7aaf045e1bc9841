-- The words in which a pool marks its free tags: bit t % 64 of word t / 64 is the bit of tag t.
use Rattle.std.specs.Prelude.{ℕ, ◌≡◌, ◌+◌, ◌/◌, ◌%◌, ◌<◌, true, false, List, length, slice_index}
use Rattle.std.specs.Int.{bit_at}
use Rattle.tag_pool.specs.Tags.{Holders, is_out}

abbrev pub bit_of : ℕ → List ℕ → ℕ
bit_of t words = bit_at (slice_index words (t / 64)) (t % 64)

-- no bit is set
abbrev pub AreClear : List ℕ → Type 0
AreClear words = (t : ℕ) → bit_of t words ≡ 0

-- the bit is set, and no lower one
abbrev pub IsLeastSet : ℕ → List ℕ → Type 0
IsLeastSet t words = (bit_of t words ≡ 1) × ((k : ℕ) → k < t → bit_of k words ≡ 0)

-- the bits of the free tags are set, and no other ones
pub record AreFree (words : List ℕ) (tags : Holders) : Type 0 where
  pub count : length words ≡ length tags / 64 + 1
  pub set : (t : ℕ) → bit_of t words ≡ 1 → (t < length tags) × (is_out t tags ≡ false)
  pub clear : (t : ℕ) → bit_of t words ≡ 0 → t < length tags → is_out t tags ≡ true
