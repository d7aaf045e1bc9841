-- One more block, read or written.
use Rattle.std.proofs.Common.{◌≡◌, ℕ, zero, suc, ◌+◌, ◌-◌, ◌*◌, ◌≤◌, cond, eqb, List, ◌++◌, length, take, sym, ap, ◌∙◌, append_assoc, append-nil, arith, inl, inr}
use Rattle.std.specs.Prelude.{nat_lt, nat_le, ◌&&◌, slice_range}
use Rattle.std.proofs.lemmas.Bool.{cases_eq}
use Rattle.std.proofs.lemmas.Bool.Decides.{nat_tests}
use Rattle.std.proofs.lemmas.Slice.{take-put_mid}
use borrow.Rule.Slice.PartMut.{put_mid}
use Rattle.block_store.specs.Blocks.{bytes_from}

pub bytes_more : (f : ℕ → List ℕ) (k n : ℕ) → bytes_from f k (suc n) ≡ bytes_from f k n ++ f (k + n)
bytes_more f k zero = let e : k + 0 ≡ k = omega arith in rw e (append-nil (f k))
bytes_more f k (suc n) =
    let e : k + 1 + n ≡ k + suc n = omega arith in
    ap (λ (r : List ℕ). f k ++ r) (bytes_more f (k + 1) n) ∙ sym (append_assoc (f k) (bytes_from f (k + 1) n) (f (k + 1 + n)))
    ∙ ap (λ (i : ℕ). f k ++ bytes_from f (k + 1) n ++ f i) e

pub read_more : (f : ℕ → List ℕ) (k i a : ℕ) (out new : List ℕ) → a + 512 ≤ length out → length new ≡ 512
    → take a out ≡ bytes_from f k i → new ≡ f (k + i) → take (a + 512) (put_mid a 512 out new) ≡ bytes_from f k (suc i)
read_more f k i a out new fits len front block =
    take-put_mid a 512 out new (a + 512) (omega arith) (omega arith) ∙ ap (λ (r : List ℕ). r ++ new) front
    ∙ ap (λ (r : List ℕ). bytes_from f k i ++ r) block ∙ sym (bytes_more f k i)

-- what was written up to j, with block j, is written up to j + 1
pub write_more : (lba j : ℕ) (bytes block : List ℕ) (old mid new : ℕ → List ℕ) → block ≡ slice_range bytes (512 * j) (512 * j + 512)
    → ((q : ℕ) → new q ≡ cond (eqb q (lba + j)) block (mid q))
    → ((q : ℕ) → mid q ≡ cond (nat_le lba q && nat_lt q (lba + j)) (slice_range bytes (512 * (q - lba)) (512 * (q - lba) + 512)) (old q))
    → (q : ℕ) → new q ≡ cond (nat_le lba q && nat_lt q (lba + (j + 1))) (slice_range bytes (512 * (q - lba)) (512 * (q - lba) + 512)) (old q)
write_more lba j bytes block old mid new e w m q =
    elim (cases_eq q (lba + j)) [
      | inl same ↦ let k : q - lba ≡ j = omega arith in rw k (grind (arith, nat_tests, w q, e))
      | inr other ↦ grind (arith, nat_tests, w q, m q)
    ]
