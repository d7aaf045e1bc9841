-- The numbers of a list, by its entries.
use Rattle.std.proofs.Common.{◌≡◌, suc, subst, ◌≤◌, ◌/◌, ◌+◌, ◌-◌, ◌*◌, ℕ, List, [], ◌∷◌, ◌++◌, length, length-take, length-drop, length-append, append_assoc, map, refl, sym, ap, ◌∙◌, arith}
use Rattle.std.specs.Prelude.{All, Option, Some, None, IsTrue, is_none, slice_range, Result, Ok, Err}
use Rattle.std.proofs.lemmas.Bool.{false≢true}
use Rattle.std.specs.List.{flat_map, range_with_len}
use denote.Bor.{Bor}
use Rattle.lun_addr.specs.declared.faults.ListFault.{ListFault}
use Rattle.lun_addr.specs.declared.faults.Form.{Form}
use Rattle.lun_addr.specs.Grammar.{refusal, list_length, lun_number}
use Rattle.lun_addr.specs.Parts.{part, list_part, entry_parts}
use Rattle.lun_addr.proofs.Entries.{as_many_parts, in_the_reply}
use Rattle.lun_scan.specs.Numbers.{known, entry_of, lun_numbers, numbers_in}

pub not_refused : (o : Option ListFault) → IsTrue (is_none o) → o ≡ None
not_refused None h = refl
not_refused (Some f) h = absurd (false≢true h)

from_places : (b : Bor (List ℕ)) (ks : List ℕ)
    → numbers_in (map (λ k. part b (8 + 8 * k) (16 + 8 * k)) ks) ≡ flat_map (λ k. known (lun_number (entry_of b.now k))) ks
from_places b [] = refl
from_places b (k ∷ ks) = ap (λ (ns : List ℕ). known (lun_number (entry_of b.now k)) ++ ns) (from_places b ks)

pub numbers_read : (b : Bor (List ℕ)) → refusal b.now ≡ None → numbers_in (entry_parts (list_part b)) ≡ lun_numbers b.now
numbers_read b e = ap numbers_in (in_the_reply b e) ∙ from_places b (range_with_len 0 (list_length b.now / 8))

pub few_entries : (b : Bor (List ℕ)) → length b.now ≤ 2056 → length (entry_parts (list_part b)) ≤ 256
few_entries b le =
    let size : length (slice_range b.now 8 (8 + list_length b.now)) ≤ 2048 = simp (length-take, length-drop) (omega arith) in
    omega (arith, as_many_parts (list_part b))

pub one_more : (numbers : List ℕ) (e : Bor (List ℕ)) (rest : List (Bor (List ℕ))) (all : List ℕ)
    → numbers ++ numbers_in (e ∷ rest) ≡ all → (numbers ++ known (lun_number e.now)) ++ numbers_in rest ≡ all
one_more numbers e rest all h = append_assoc numbers (known (lun_number e.now)) (numbers_in rest) ∙ h

pub at_most_one : (r : Result ℕ Form) → length (known r) ≤ 1
at_most_one (Ok n) = omega arith
at_most_one (Err f) = omega arith

-- the step of a loop over the entries that are left
pub told_more : (numbers : List ℕ) (e : Bor (List ℕ)) (left rest : List (Bor (List ℕ))) (after all : List ℕ)
    → left ≡ e ∷ rest → after ≡ numbers ++ known (lun_number e.now) → numbers ++ numbers_in left ≡ all → after ++ numbers_in rest ≡ all
told_more numbers e left rest after all is grown told =
    ap (λ (xs : List ℕ). xs ++ numbers_in rest) grown ∙ one_more numbers e rest all (ap (λ (es : List (Bor (List ℕ))). numbers ++ numbers_in es) (sym is) ∙ told)

pub few_more : (numbers : List ℕ) (e : Bor (List ℕ)) (left rest : List (Bor (List ℕ))) (after : List ℕ)
    → left ≡ e ∷ rest → after ≡ numbers ++ known (lun_number e.now) → length numbers + length left ≤ 256 → length after + length rest ≤ 256
few_more numbers e left rest after is grown few =
    let longer : length left ≡ length rest + 1 = ap length is ∙ omega arith in
    let size : length after ≡ length numbers + length (known (lun_number e.now)) = ap length grown ∙ length-append numbers (known (lun_number e.now)) in
    omega (arith, at_most_one (lun_number e.now))

pub eight_more : (e : Bor (List ℕ)) (left rest : List (Bor (List ℕ))) → left ≡ e ∷ rest → All (λ x. length x.now ≡ 8) left → All (λ x. length x.now ≡ 8) rest
eight_more e left rest is all = λ k d lt. (subst (λ (es : List (Bor (List ℕ))). All (λ x. length x.now ≡ 8) es) is all) (suc k) d (omega arith)
