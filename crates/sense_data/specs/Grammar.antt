-- Sense data (SPC-4, 4.5) as a list of bytes: which lists are sense data, and what their fields say.
--
-- Fixed form (4.5.3), response codes 70h and 71h:
--     byte 0 VALID (bit 7) and the response code, byte 2 the sense key (bits 3 to 0), bytes 3 to 6 INFORMATION,
--     byte 7 the additional length, byte 12 ASC, byte 13 ASCQ
-- Descriptor form (4.5.2), response codes 72h and 73h:
--     byte 0 the response code, byte 1 the sense key (bits 3 to 0), byte 2 ASC, byte 3 ASCQ, byte 7 the additional
--     length, from byte 8 on the descriptors: a type, a length, and as many bytes as it says
use Rattle.std.specs.Prelude.{◌≡◌, ℕ, zero, suc, ◌+◌, ◌-◌, ◌%◌, min, List, [], ◌∷◌, ◌++◌, length, map, drop, Option, Some, None, is_none, Bool, true, ◌&&◌, ◌||◌, nat_lt, nat_le, ◌==◌, if◌then◌else◌, slice_index, slice_range, find}
use Rattle.byteorder.specs.Endian.{big_number, big_bytes}
use Rattle.sense_data.specs.declared.faults.SenseFault.{SenseFault}
use Rattle.sense_data.specs.declared.faults.SenseFault.TheVariants.{Empty, Code, Short, DescriptorCut}

-- the response code: byte 0 without its bit 7
abbrev pub response_code : List ℕ → ℕ
response_code b = slice_index b 0 % 128

-- whether sense data is of the fixed form
abbrev pub is_fixed : List ℕ → Bool
is_fixed b = nat_lt (response_code b) 114

-- the place at which sense data ends, by its additional length
abbrev pub sense_end : List ℕ → ℕ
sense_end b = min (length b) (8 + slice_index b 7)

-- the place after the descriptor at p
abbrev pub descriptor_end : List ℕ → ℕ → ℕ
descriptor_end b p = p + 2 + slice_index b (p + 1)

-- the places at which descriptors start, from p on up to `end`: at most n of them
abbrev pub starts_within : ℕ → List ℕ → ℕ → ℕ → List ℕ
starts_within zero b end p = []
starts_within (suc n) b end p = if nat_le end p then [] else p ∷ starts_within n b end (descriptor_end b p)

-- all of them, since each descriptor takes two bytes or more
abbrev pub starts_from : List ℕ → ℕ → ℕ → List ℕ
starts_from b end p = starts_within (end - p) b end p

-- the first descriptor that isn't whole by `end`
abbrev pub first_cut : List ℕ → ℕ → ℕ → Option ℕ
first_cut b end p = find (λ start. nat_lt end (descriptor_end b start)) (starts_from b end p)

abbrev pub cut_fault : Option ℕ → Option SenseFault
cut_fault None = None
cut_fault (Some p) = Some (DescriptorCut p)

-- why these bytes aren't sense data, if they aren't
abbrev pub refusal : List ℕ → Option SenseFault
refusal [] = Some Empty
refusal (code ∷ rest) =
    if nat_lt (code % 128) 112 || nat_lt 115 (code % 128) then Some (Code code)
    else (if nat_lt (length (code ∷ rest)) 8 then Some (Short (length (code ∷ rest)) 8)
    else (if is_fixed (code ∷ rest) then None
    else cut_fault (first_cut (code ∷ rest) (sense_end (code ∷ rest)) 8)))

abbrev pub is_valid_sense : List ℕ → Bool
is_valid_sense b = is_none (refusal b)

-- ---- the fields of valid sense data

abbrev pub sense_key : List ℕ → ℕ
sense_key b = (if is_fixed b then slice_index b 2 else slice_index b 1) % 16

-- the byte at p of the fixed form, or 0 where it ends before
abbrev pub byte_before_end : List ℕ → ℕ → ℕ
byte_before_end b p = if nat_lt p (sense_end b) then slice_index b p else 0

-- the additional sense code
abbrev pub sense_asc : List ℕ → ℕ
sense_asc b = if is_fixed b then byte_before_end b 12 else slice_index b 2

-- the additional sense code qualifier
abbrev pub sense_ascq : List ℕ → ℕ
sense_ascq b = if is_fixed b then byte_before_end b 13 else slice_index b 3

-- whether the error is of an earlier command (4.5.5)
abbrev pub is_deferred : List ℕ → Bool
is_deferred b = (response_code b == 113) || (response_code b == 115)

-- type and body of each descriptor; the fixed form has none
abbrev pub descriptors : List ℕ → List (ℕ × List ℕ)
descriptors b =
    if is_fixed b then []
    else map (λ p. (slice_index b p, slice_range b (p + 2) (descriptor_end b p))) (starts_from b (sense_end b) 8)

-- an information descriptor (4.5.2.2) that is valid: type 00h, length 0Ah, and VALID, bit 7 of its byte 2
abbrev pub is_information : (ℕ × List ℕ) → Bool
is_information d = (d.0 == 0) && (length d.1 == 10) && nat_le 128 (slice_index d.1 0)

-- the number in bytes 4 to 11 of an information descriptor
abbrev pub information_in : Option (ℕ × List ℕ) → Option ℕ
information_in None = None
information_in (Some d) = Some (big_number 8 (drop 2 d.1))

abbrev pub information : List ℕ → Option ℕ
information b =
    if is_fixed b then (if nat_le 128 (slice_index b 0) then Some (big_number 4 (drop 3 b)) else None)
    else information_in (find is_information (descriptors b))

-- ---- sense data of given fields

abbrev pub fixed_bytes : ℕ → ℕ → ℕ → ℕ → ℕ → List ℕ
fixed_bytes code key information asc ascq =
    (code ∷ 0 ∷ key ∷ big_bytes 4 information) ++ 10 ∷ 0 ∷ 0 ∷ 0 ∷ 0 ∷ asc ∷ ascq ∷ 0 ∷ 0 ∷ 0 ∷ 0 ∷ []

-- fixed sense data: VALID is set where there is INFORMATION
abbrev pub fixed_sense : ℕ → ℕ → ℕ → Option ℕ → Bool → List ℕ
fixed_sense key asc ascq None deferred = fixed_bytes (if deferred then 113 else 112) key 0 asc ascq
fixed_sense key asc ascq (Some n) deferred = fixed_bytes (if deferred then 241 else 240) key n asc ascq

abbrev pub descriptor_header : ℕ → ℕ → ℕ → ℕ → Bool → List ℕ
descriptor_header additional key asc ascq deferred =
    (if deferred then 115 else 114) ∷ key ∷ asc ∷ ascq ∷ 0 ∷ 0 ∷ 0 ∷ additional ∷ []

-- sense data of the descriptor form, with an information descriptor where there is INFORMATION
abbrev pub descriptor_sense : ℕ → ℕ → ℕ → Option ℕ → Bool → List ℕ
descriptor_sense key asc ascq None deferred = descriptor_header 0 key asc ascq deferred
descriptor_sense key asc ascq (Some n) deferred =
    (descriptor_header 12 key asc ascq deferred ++ 0 ∷ 10 ∷ 128 ∷ 0 ∷ []) ++ big_bytes 8 n

-- valid sense data with these fields
pub record HasFields (b : List ℕ) (key asc ascq : ℕ) (info : Option ℕ) (deferred : Bool) : Type 0 where
  pub valid : is_valid_sense b ≡ true
  pub key_is : sense_key b ≡ key
  pub asc_is : sense_asc b ≡ asc
  pub ascq_is : sense_ascq b ≡ ascq
  pub information_is : information b ≡ info
  pub deferred_is : is_deferred b ≡ deferred
