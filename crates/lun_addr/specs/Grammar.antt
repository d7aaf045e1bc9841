-- The list of logical units that a device gives (SPC-4, REPORT LUNS parameter data) as a list of bytes: which lists of bytes
-- are one, and which numbers its entries have.
--
--     bytes 0 to 3 the list length, which counts bytes, bytes 4 to 7 reserved, then eight bytes for each logical unit
--
-- The eight bytes of a logical unit (SAM-5, addressing methods): bits 7 and 6 of byte 0 are the address method.
--     00 peripheral device addressing: bits 5 to 0 of byte 0 the bus, byte 1 the number
--     01 flat space addressing: bits 5 to 0 of byte 0 and byte 1 the number
use Rattle.std.specs.Prelude.{ℕ, ◌+◌, ◌-◌, ◌*◌, ◌/◌, ◌%◌, List, [], ◌∷◌, ◌++◌, length, Option, Some, None, is_none, Result, Ok, Err, Bool, not, nat_lt, ◌==◌, if◌then◌else◌, slice_index}
use Rattle.std.specs.List.{flat_map}
use Rattle.byteorder.specs.Endian.{big_number, big_bytes}
use Rattle.lun_addr.specs.declared.faults.ListFault.{ListFault}
use Rattle.lun_addr.specs.declared.faults.ListFault.TheVariants.{Short, Uneven, Cut}
use Rattle.lun_addr.specs.declared.faults.Form.{Form}

-- the list length in bytes
abbrev pub list_length : List ℕ → ℕ
list_length b = big_number 4 b

-- why these bytes aren't a whole list, if they aren't
abbrev pub refusal : List ℕ → Option ListFault
refusal b =
    if nat_lt (length b) 8 then Some (Short (length b))
    else (if not (list_length b % 8 == 0) then Some (Uneven (list_length b))
    else (if nat_lt (length b - 8) (list_length b) then Some (Cut (list_length b) (length b - 8))
    else None))

abbrev pub is_lun_list : List ℕ → Bool
is_lun_list b = is_none (refusal b)

-- the number of the logical unit in an entry of eight bytes, or else its byte 0
abbrev pub lun_number : List ℕ → Result ℕ Form
lun_number e =
    if slice_index e 0 == 0 then Ok (slice_index e 1)
    else (if slice_index e 0 / 64 == 1 then Ok ((slice_index e 0 % 64) * 256 + slice_index e 1)
    else Err (record { 0 = slice_index e 0 }))

-- ---- lists of given numbers

-- the entry of a number: on bus 0 where a byte holds it, else in the flat space
abbrev pub lun_entry : ℕ → List ℕ
lun_entry n = (if nat_lt n 256 then 0 ∷ n ∷ [] else (64 + n / 256) ∷ (n % 256) ∷ []) ++ 0 ∷ 0 ∷ 0 ∷ 0 ∷ 0 ∷ 0 ∷ []

abbrev pub lun_list : List ℕ → List ℕ
lun_list luns = (big_bytes 4 (8 * length luns) ++ 0 ∷ 0 ∷ 0 ∷ 0 ∷ []) ++ flat_map lun_entry luns
