-- The bits of words: which ones a write changes, and the lowest one that is set.
use Rattle.std.proofs.Common.{◌≡◌, ◌≢◌, ◌∙◌, sym, ap, subst, refl, ℕ, ◌+◌, ◌*◌, ◌/◌, ◌%◌, ◌^◌, ◌<◌, ◌≤◌, Bool, true, false, List, length, get_or, set, replicate, None, Some, inl, inr, arith, w64}
use Rattle.std.specs.Int.{bit_at, trailing_zeros}
use Rattle.std.proofs.lemmas.Bool.{cases_eq, cases_lt}
use Rattle.std.proofs.lemmas.List.{get_or-set_same, get_or-set_other, get_or-replicate, get_or_past, get_or_default, length-set, length-replicate}
use Rattle.std.proofs.lemmas.Nat.Bits.{bit_at-zero, bit_at-lt, bit_at-trailing_zeros}
use Rattle.tag_pool.specs.Words.{bit_of, AreClear, IsLeastSet, AreFree}

-- a word that is written has the bits of its tags
pub written_here : (ws : List ℕ) (t w : ℕ) → t < 64 * length ws → bit_of t (set ws (t / 64) w) ≡ bit_at w (t % 64)
written_here ws t w within =
    let place : t / 64 < length ws = omega arith in
    ap (λ (x : ℕ). bit_at x (t % 64)) (get_or-set_same ws (t / 64) w 0 place)

-- other bits stay, where the write keeps the other bits of the word
pub written_elsewhere : (ws : List ℕ) (t w v : ℕ) → t < 64 * length ws → v ≡ get_or ws (t / 64) v
    → ((i : ℕ) → i < 64 → i ≢ t % 64 → bit_at w i ≡ bit_at v i) → (k : ℕ) → k ≢ t → bit_of k (set ws (t / 64) w) ≡ bit_of k ws
written_elsewhere ws t w v within read keeps k other =
    elim (cases_eq (k / 64) (t / 64)) as (λ _. bit_of k (set ws (t / 64) w) ≡ bit_of k ws) [
      | inl same ↦
          let place : t / 64 < length ws = omega arith in
          let apart : k % 64 ≢ t % 64 = λ e. other (omega arith) in
          let low : k % 64 < 64 = omega arith in
          let new : get_or (set ws (t / 64) w) (k / 64) 0 ≡ w = ap (λ (i : ℕ). get_or (set ws (t / 64) w) i 0) same ∙ get_or-set_same ws (t / 64) w 0 place in
          let old : v ≡ get_or ws (k / 64) 0 = read ∙ get_or_default ws (t / 64) v 0 place ∙ ap (λ (i : ℕ). get_or ws i 0) (sym same) in
          ap (λ (x : ℕ). bit_at x (k % 64)) new ∙ keeps (k % 64) low apart ∙ ap (λ (x : ℕ). bit_at x (k % 64)) old
      | inr apart ↦ ap (λ (x : ℕ). bit_at x (k % 64)) (get_or-set_other ws (t / 64) (k / 64) w 0 apart)
    ]

bit_within : (ws : List ℕ) (i z t : ℕ) → z < 64 → t ≡ 64 * i + z → bit_of t ws ≡ bit_at (get_or ws i 0) z
bit_within ws i z t low at =
    let word : t / 64 ≡ i = omega arith in
    let bit : t % 64 ≡ z = omega arith in
    rw (word, bit) refl

-- a word of zeros has no bit
no_bit : (ws : List ℕ) (t : ℕ) → get_or ws (t / 64) 0 ≡ 0 → bit_of t ws ≡ 0
no_bit ws t zero = ap (λ (x : ℕ). bit_at x (t % 64)) zero ∙ bit_at-zero (t % 64)

pub none_set : (ws : List ℕ) (n : ℕ) → length ws ≤ n → ((k : ℕ) → k < n → get_or ws k 0 ≡ 0) → AreClear ws
none_set ws n all zeros t =
    elim (cases_lt (t / 64) n) as (λ _. bit_of t ws ≡ 0) [
      | inl within ↦ no_bit ws t (zeros (t / 64) within)
      | inr past ↦ no_bit ws t (get_or_past ws (t / 64) 0 (omega arith))
    ]

-- the lowest bit of the first word that isn't 0
pub first_set : (ws : List ℕ) (i w : ℕ) → i < length ws → w ≡ get_or ws i w → 0 < w → w < 2 ^ 64 → ((k : ℕ) → k < i → get_or ws k 0 ≡ 0)
    → IsLeastSet (64 * i + trailing_zeros w64 w) ws
first_set ws i w within read some fits zeros =
    let z : ℕ = trailing_zeros w64 w in
    let lowest = bit_at-trailing_zeros w64 w some fits in
    let low : trailing_zeros w64 w < 64 = lowest.0 in
    let here : get_or ws i 0 ≡ w = sym (read ∙ get_or_default ws i w 0 within) in (
      bit_within ws i (trailing_zeros w64 w) (64 * i + trailing_zeros w64 w) low refl ∙ ap (λ (x : ℕ). bit_at x (trailing_zeros w64 w)) here ∙ lowest.1,
      λ k below. elim (cases_lt (k / 64) i) as (λ _. bit_of k ws ≡ 0) [
        | inl before ↦ no_bit ws k (zeros (k / 64) before)
        | inr reached ↦
            let word : k / 64 ≡ i = omega arith in
            let lower : k % 64 < trailing_zeros w64 w = omega arith in
            rw (word, here) (lowest.2 (k % 64) lower)
      ],
    )
