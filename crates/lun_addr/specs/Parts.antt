-- Parts of the caller's slice: which places they are, and where they lie.
use Rattle.std.specs.Prelude.{◌≡◌, ℕ, ◌+◌, ◌-◌, ◌*◌, ◌/◌, List, map, length, Ok, None, slice_range}
use Rattle.std.specs.List.{range_with_len}
use denote.Bor.{Bor}
use Rattle.lun_addr.specs.Grammar.{refusal, list_length, lun_number}

-- the places from `from` up to `to` of this very slice
abbrev pub part : Bor (List ℕ) → ℕ → ℕ → Bor (List ℕ)
part b from to = record { ref_ptr = (b.ref_ptr.0, b.ref_ptr.1 + from); now = slice_range b.now from to }

-- the entries of a list, all of them: from place 8 on, as many bytes as the list length says
abbrev pub list_part : Bor (List ℕ) → Bor (List ℕ)
list_part b = part b 8 (8 + list_length b.now)

-- the entries from the one with number k on, each the range of eight that starts at 8 times its number
abbrev pub parts_from : Bor (List ℕ) → ℕ → List (Bor (List ℕ))
parts_from entries k = map (λ i. part entries (8 * i) (8 * i + 8)) (range_with_len k (length entries.now / 8 - k))

-- all of them
abbrev pub entry_parts : Bor (List ℕ) → List (Bor (List ℕ))
entry_parts entries = parts_from entries 0

-- these bytes are a whole list, and its entries have these numbers
pub record ReadsBack (b : Bor (List ℕ)) (luns : List ℕ) : Type 0 where
  pub whole : refusal b.now ≡ None
  pub numbers : map (λ e. lun_number e.now) (entry_parts (list_part b)) ≡ map Ok luns
