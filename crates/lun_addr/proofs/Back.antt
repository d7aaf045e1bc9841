-- A list that was written is read again.
use Rattle.std.proofs.Common.{◌≡◌, ◌/◌, ◌%◌, ℕ, suc, ◌+◌, ◌-◌, ◌*◌, ◌≤◌, List, [], ◌∷◌, ◌++◌, length, take, drop, append_assoc, length-append, drop-drop, Ok, true, false, refl, sym, ap, ◌∙◌, arith, inl, inr}
use Rattle.std.specs.Prelude.{map, All, nat_lt, ◌==◌}
use Rattle.std.specs.List.{flat_map, range_with_len}
use Rattle.std.proofs.lemmas.Bool.{cases_lt}
use Rattle.std.proofs.lemmas.Bool.Decides.{nat_tests}
use Rattle.byteorder.specs.Numbers.{big_number-reads_back}
use denote.Bor.{Bor}
use Rattle.lun_addr.specs.Grammar.{lun_entry, lun_list, lun_number, list_length}
use Rattle.lun_addr.specs.Parts.{ReadsBack, part}
use Rattle.lun_addr.proofs.Entered.{length_entry}
use Rattle.lun_addr.proofs.Entries.{not_refused, in_the_reply}

flat_number : (n : ℕ) (left : List ℕ) → n ≤ 16383 → lun_number ((64 + n / 256) ∷ (n % 256) ∷ left) ≡ Ok n
flat_number n left small =
    let method : (64 + n / 256) / 64 ≡ 1 = omega arith in
    let same : ((64 + n / 256) % 64) * 256 + n % 256 ≡ n = omega arith in
    let more : (64 + n / 256 == 0) ≡ false = grind (arith, nat_tests) in
    rw (more, method, same) refl

-- an entry in front of others: its number, and the others
front : (n : ℕ) (left : List ℕ) → n ≤ 16383 → (lun_number (take 8 (lun_entry n ++ left)) ≡ Ok n) × (drop 8 (lun_entry n ++ left) ≡ left)
front n left small = elim (cases_lt n 256) [
  | inl lt ↦ let t : nat_lt n 256 ≡ true = grind (arith, nat_tests) in rw t (refl, refl)
  | inr le ↦ let t : nat_lt n 256 ≡ false = grind (arith, nat_tests) in rw t (flat_number n (0 ∷ 0 ∷ 0 ∷ 0 ∷ 0 ∷ 0 ∷ []) small, refl)
]

length_entries : (luns : List ℕ) → length (flat_map lun_entry luns) ≡ 8 * length luns
length_entries [] = refl
length_entries (n ∷ luns) = omega (arith, length-append (lun_entry n) (flat_map lun_entry luns), length_entry n, length_entries luns)

numbers_from : (b : Bor (List ℕ)) (k : ℕ) (luns rest : List ℕ) → All (λ n. n ≤ 16383) luns → drop (8 + 8 * k) b.now ≡ flat_map lun_entry luns ++ rest
    → map (λ e. lun_number e.now) (map (λ i. part b (8 + 8 * i) (16 + 8 * i)) (range_with_len k (length luns))) ≡ map Ok luns
numbers_from b k [] rest small e = refl
numbers_from b k (n ∷ luns) rest small e =
    let eight : 16 + 8 * k - (8 + 8 * k) ≡ 8 = omega arith in
    let same = e ∙ append_assoc (lun_entry n) (flat_map lun_entry luns) rest in
    let here = front n (flat_map lun_entry luns ++ rest) (small 0 0 (omega arith)) in
    let next : 8 + 8 * (k + 1) ≡ 8 + 8 * k + 8 = omega arith in
    let left : drop (8 + 8 * (k + 1)) b.now ≡ flat_map lun_entry luns ++ rest = rw next (sym (drop-drop 8 (8 + 8 * k) b.now) ∙ ap (drop 8) same ∙ here.1) in
    let others = numbers_from b (k + 1) luns rest (λ i d lt. small (suc i) d (omega arith)) left in
    rw (eight, same, here.0, others) refl

pub reads_back : (b : Bor (List ℕ)) (luns rest : List ℕ) → All (λ n. n ≤ 16383) luns → length luns ≤ 256 → b.now ≡ lun_list luns ++ rest → ReadsBack b luns
reads_back b luns rest small few e =
    let told : list_length b.now ≡ 8 * length luns = rw e (big_number-reads_back 4 (8 * length luns) (0 ∷ 0 ∷ 0 ∷ 0 ∷ (flat_map lun_entry luns ++ rest)) (omega arith)) in
    let size : length b.now ≡ 8 + (8 * length luns + length rest) = rw e (omega (arith, length-append (flat_map lun_entry luns) rest, length_entries luns)) in
    let read = not_refused b.now record { header = omega arith; even = rw told (omega arith); present = rw told (omega arith) } in
    let count : 8 * length luns / 8 ≡ length luns = omega arith in
    record {
      whole = read;
      numbers = rw (in_the_reply b read, told, count) (numbers_from b 0 luns rest small (rw e refl));
    }
