-- The entries of a list, one after the other, and where they stand in the caller's slice.
use Rattle.std.proofs.Common.{◌≡◌, ◌/◌, ◌%◌, ℕ, suc, zero, ◌+◌, ◌-◌, ◌*◌, ◌<◌, ◌≤◌, List, [], ◌∷◌, length, drop, length-take, length-drop, None, refl, ap, ◌∙◌, arith}
use Rattle.std.specs.Prelude.{map, All, slice_index_or, slice_range}
use Rattle.std.specs.List.{range_with_len}
use Rattle.std.proofs.lemmas.Bool.Decides.{nat_tests}
use Rattle.std.proofs.lemmas.List.{drop-take, take-take, drop-drop}
use denote.Bor.{Bor}
use Rattle.lun_addr.specs.Grammar.{refusal, list_length}
use Rattle.lun_addr.specs.Parts.{part, list_part, entry_parts, parts_from}

pub parts_step : (b : Bor (List ℕ)) (k : ℕ) → k < length b.now / 8 → parts_from b k ≡ part b (8 * k) (8 * k + 8) ∷ parts_from b (k + 1)
parts_step b k lt =
    let n : length b.now / 8 - k ≡ suc (length b.now / 8 - (k + 1)) = omega arith in
    rw n refl

pub parts_end : (b : Bor (List ℕ)) (k : ℕ) → length b.now / 8 ≤ k → parts_from b k ≡ []
parts_end b k le = let n : length b.now / 8 - k ≡ 0 = omega arith in rw n refl

length_range : (k n : ℕ) → length (range_with_len k n) ≡ n
length_range k zero = refl
length_range k (suc n) = ap suc (length_range (k + 1) n)

length_map : {A B : Type 0} (f : A → B) (xs : List A) → length (map f xs) ≡ length xs
length_map f [] = refl
length_map f (x ∷ xs) = ap suc (length_map f xs)

pub as_many_parts : (b : Bor (List ℕ)) → length (entry_parts b) ≡ length b.now / 8
as_many_parts b =
    let all : length b.now / 8 - 0 ≡ length b.now / 8 = omega arith in
    length_map (λ (i : ℕ). part b (8 * i) (8 * i + 8)) (range_with_len 0 (length b.now / 8 - 0)) ∙ length_range 0 (length b.now / 8 - 0) ∙ all

-- what holds of a whole list
pub record Whole (b : List ℕ) : Type 0 where
  pub header : 8 ≤ length b
  pub even : list_length b % 8 ≡ 0
  pub present : list_length b ≤ length b - 8

pub whole : (b : List ℕ) → refusal b ≡ None → Whole b
whole b e = record {
  header = grind (arith, nat_tests);
  even = grind (arith, nat_tests);
  present = grind (arith, nat_tests);
}

pub not_refused : (b : List ℕ) → Whole b → refusal b ≡ None
not_refused b w = let h = w.header in let e = w.even in let p = w.present in grind (arith, nat_tests)

range_in_range : (xs : List ℕ) (n i : ℕ) → 8 * i + 8 ≤ n → slice_range (slice_range xs 8 (8 + n)) (8 * i) (8 * i + 8) ≡ slice_range xs (8 + 8 * i) (16 + 8 * i)
range_in_range xs n i le =
    let wide : 8 + n - 8 ≡ 8 * i + (n - 8 * i) = omega arith in
    let inner : 8 * i + 8 - 8 * i ≡ 8 = omega arith in
    let outer : 16 + 8 * i - (8 + 8 * i) ≡ 8 = omega arith in
    rw (wide, inner, outer, drop-take (8 * i) (n - 8 * i) (drop 8 xs), drop-drop (8 * i) 8 xs)
    (take-take 8 (n - 8 * i) (drop (8 + 8 * i) xs) (omega arith))

part_in_part : (b : Bor (List ℕ)) (n i : ℕ) → 8 * i + 8 ≤ n → part (part b 8 (8 + n)) (8 * i) (8 * i + 8) ≡ part b (8 + 8 * i) (16 + 8 * i)
part_in_part b n i le =
    let place : b.ref_ptr.1 + 8 + 8 * i ≡ b.ref_ptr.1 + (8 + 8 * i) = omega arith in
    rw (place, range_in_range b.now n i le) refl

parts_in_part : (b : Bor (List ℕ)) (n k m : ℕ) → 8 * (k + m) ≤ n → map (λ i. part (part b 8 (8 + n)) (8 * i) (8 * i + 8)) (range_with_len k m) ≡ map (λ i. part b (8 + 8 * i) (16 + 8 * i)) (range_with_len k m)
parts_in_part b n k zero le = refl
parts_in_part b n k (suc m) le =
    rw (part_in_part b n k (omega arith), parts_in_part b n (k + 1) m (omega arith)) refl

pub in_the_reply : (b : Bor (List ℕ)) → refusal b.now ≡ None → entry_parts (list_part b) ≡ map (λ k. part b (8 + 8 * k) (16 + 8 * k)) (range_with_len 0 (list_length b.now / 8))
in_the_reply b e =
    let w = whole b.now e in
    let n = list_length b.now in
    let size : length (slice_range b.now 8 (8 + n)) ≡ n = simp (length-take, length-drop) (omega (arith, w.header, w.present)) in
    let count : length (slice_range b.now 8 (8 + n)) / 8 - 0 ≡ n / 8 = omega (arith, size) in
    rw count (parts_in_part b n 0 (n / 8) (omega arith))

eight_at : (b : Bor (List ℕ)) (k m i : ℕ) (d : Bor (List ℕ)) → 8 * (k + m) ≤ length b.now → i < m → length (slice_index_or (map (λ n. part b (8 * n) (8 * n + 8)) (range_with_len k m)) i d).now ≡ 8
eight_at b k zero i d le lt = absurd (omega arith)
eight_at b k (suc m) zero d le lt = simp (length-take, length-drop) (omega arith)
eight_at b k (suc m) (suc i) d le lt = eight_at b (k + 1) m i d (omega arith) (omega arith)

length_parts : (b : Bor (List ℕ)) (k m : ℕ) → length (map (λ n. part b (8 * n) (8 * n + 8)) (range_with_len k m)) ≡ m
length_parts b k zero = refl
length_parts b k (suc m) = ap suc (length_parts b (k + 1) m)

-- each entry has eight bytes
pub eight_each : (b : Bor (List ℕ)) → All (λ e. length e.now ≡ 8) (entry_parts b)
eight_each b i d lt = eight_at b 0 (length b.now / 8 - 0) i d (omega arith) (rw (length_parts b 0 (length b.now / 8 - 0)) at lt)
