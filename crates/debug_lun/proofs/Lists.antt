-- The length of a list of logical units, and the list in front of what stands behind it.
use Rattle.std.proofs.Common.{◌≡◌, ℕ, ◌+◌, ◌*◌, List, [], ◌∷◌, ◌++◌, length, take, length-append, refl, arith}
use Rattle.std.specs.Prelude.{◌/◌, ◌%◌, true, false, nat_lt, if◌then◌else◌}
use Rattle.std.specs.List.{flat_map}
use Rattle.std.proofs.lemmas.List.{take_at}
use Rattle.lun_addr.specs.Grammar.{lun_entry, lun_list}

length_entry : (n : ℕ) → length (lun_entry n) ≡ 8
length_entry n = elim (nat_lt n 256) as (λ f. length ((if f then 0 ∷ n ∷ [] else (64 + n / 256) ∷ (n % 256) ∷ []) ++ 0 ∷ 0 ∷ 0 ∷ 0 ∷ 0 ∷ 0 ∷ []) ≡ 8) [
  | true ↦ refl
  | false ↦ refl
]

length_entries : (luns : List ℕ) → length (flat_map lun_entry luns) ≡ 8 * length luns
length_entries [] = refl
length_entries (n ∷ luns) = omega (arith, length-append (lun_entry n) (flat_map lun_entry luns), length_entry n, length_entries luns)

pub length_list : (luns : List ℕ) → length (lun_list luns) ≡ 8 + 8 * length luns
length_list luns = omega (arith, length_entries luns)

pub take_list : (luns rest : List ℕ) → take (8 + 8 * length luns) (lun_list luns ++ rest) ≡ lun_list luns
take_list luns rest = take_at (lun_list luns) rest (8 + 8 * length luns) (length_list luns)
