-- The numbers in a list of logical units (SPC-4, REPORT LUNS parameter data).
use Rattle.std.specs.Prelude.{ℕ, ◌+◌, ◌*◌, ◌/◌, List, [], ◌∷◌, Result, Ok, Err, slice_range}
use Rattle.std.specs.List.{flat_map, range_with_len}
use denote.Bor.{Bor}
use Rattle.lun_addr.specs.declared.faults.Form.{Form}
use Rattle.lun_addr.specs.Grammar.{list_length, lun_number}

-- an entry whose form isn't known has no number
abbrev pub known : Result ℕ Form → List ℕ
known (Ok n) = n ∷ []
known (Err form) = []

-- the entry with this place in a list, eight bytes behind the eight of the header
abbrev pub entry_of : List ℕ → ℕ → List ℕ
entry_of list k = slice_range list (8 + 8 * k) (16 + 8 * k)

-- the numbers of the entries, in the order of the list
abbrev pub lun_numbers : List ℕ → List ℕ
lun_numbers list = flat_map (λ k. known (lun_number (entry_of list k))) (range_with_len 0 (list_length list / 8))

-- the same of entries that are parts of the caller's bytes
abbrev pub numbers_in : List (Bor (List ℕ)) → List ℕ
numbers_in entries = flat_map (λ e. known (lun_number e.now)) entries
