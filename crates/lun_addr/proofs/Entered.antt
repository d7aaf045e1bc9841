-- A buffer after one more entry was written at a place, and after the last one.
use Rattle.std.proofs.Common.{◌≡◌, ℕ, ◌+◌, ◌-◌, ◌<◌, ◌≤◌, List, [], ◌∷◌, ◌++◌, length, take, drop, length-take, length-drop, length-append, append_assoc, append-nil, refl, sym, ◌∙◌, arith}
use Rattle.std.specs.List.{flat_map, slice_index}
use Rattle.std.specs.Prelude.{◌/◌, ◌%◌, true, false, nat_lt, if◌then◌else◌}
use Rattle.std.proofs.lemmas.List.{take_at, take_rest, take-append-drop, drop_all, drop_more, drop-drop}
use Rattle.std.proofs.lemmas.Slice.{drop-append-drop}
use borrow.Rule.Slice.PartMut.{put_mid}
use Rattle.lun_addr.specs.Grammar.{lun_entry}

pub length_entry : (n : ℕ) → length (lun_entry n) ≡ 8
length_entry n = elim (nat_lt n 256) as (λ f. length ((if f then 0 ∷ n ∷ [] else (64 + n / 256) ∷ (n % 256) ∷ []) ++ 0 ∷ 0 ∷ 0 ∷ 0 ∷ 0 ∷ 0 ∷ []) ≡ 8) [
  | true ↦ refl
  | false ↦ refl
]

pub entered : (at : ℕ) (xs e : List ℕ) → at + 8 ≤ length xs → put_mid at (length xs - at) xs (e ++ drop 8 (take (length xs - at) (drop at xs))) ≡ (take at xs ++ e) ++ drop (at + 8) xs
entered at xs e le =
    let none : drop (length xs - at) (drop at xs) ≡ [] = drop_all (length xs - at) (drop at xs) (omega (arith, length-drop at xs)) in
    rw (take_rest xs at, none, drop-drop 8 at xs, append-nil (e ++ drop (at + 8) xs)) (sym (append_assoc (take at xs) e (drop (at + 8) xs)))

length_front : (at : ℕ) (xs e : List ℕ) → at + 8 ≤ length xs → length e ≡ 8 → length (take at xs ++ e) ≡ at + 8
length_front at xs e le eight = simp (length-append, length-take) (omega (arith, eight))

pub length_entered : (at : ℕ) (xs e : List ℕ) → at + 8 ≤ length xs → length e ≡ 8 → length ((take at xs ++ e) ++ drop (at + 8) xs) ≡ length xs
length_entered at xs e le eight = simp (length-append, length-take, length-drop) (omega (arith, eight))

pub take_entered : (at i : ℕ) (xs luns : List ℕ) → at + 8 ≤ length xs → i < length luns → take (at + 8) ((take at xs ++ lun_entry (slice_index luns i)) ++ drop (at + 8) xs) ++ flat_map lun_entry (drop (i + 1) luns) ≡ take at xs ++ flat_map lun_entry (drop i luns)
take_entered at i xs luns le more =
    let e = lun_entry (slice_index luns i) in
    rw (take_at (take at xs ++ e) (drop (at + 8) xs) (at + 8) (length_front at xs e le (length_entry (slice_index luns i))), drop_more luns i 0 more)
    (append_assoc (take at xs) e (flat_map lun_entry (drop (i + 1) luns)))

pub drop_entered : (at n : ℕ) (xs e : List ℕ) → at + 8 ≤ length xs → length e ≡ 8 → at + 8 ≤ n → drop n ((take at xs ++ e) ++ drop (at + 8) xs) ≡ drop n xs
drop_entered at n xs e le eight past = drop-append-drop (at + 8) xs (take at xs ++ e) n past (length_front at xs e le eight)

pub finished : (at i : ℕ) (xs old luns all : List ℕ) → length luns ≤ i → take at xs ++ flat_map lun_entry (drop i luns) ≡ all → drop at xs ≡ drop at old → xs ≡ all ++ drop at old
finished at i xs old luns all last done rest =
    let none = drop_all i luns last in
    let front : take at xs ≡ all = sym (append-nil (take at xs)) ∙ (rw none at done) in
    sym (take-append-drop at xs) ∙ rw (front, rest) refl
