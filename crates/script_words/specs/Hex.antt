-- Bytes in hexadecimal digits of either case.
use Rattle.std.specs.Prelude.{◌≤◌, ℕ, ◌+◌, ◌-◌, ◌*◌, List, [], ◌∷◌, ◌++◌, length, take, drop, replicate, Option, Some, None, unwrap_or, ◌&&◌, nat_le, if◌then◌else◌}
use Rattle.std.proofs.Common.{arith, refl, length-take}
use Rattle.mid_base.specs.Padded.{padded_made}
use Rattle.mid_base.specs.declared.bytes.CdbBytes.{CdbBytes}
use Rattle.mid_base.specs.declared.bytes.SenseBytes.{SenseBytes}

abbrev pub digit : ℕ → Option ℕ
digit b =
    if nat_le 48 b && nat_le b 57 then Some (b - 48)
    else if nat_le 97 b && nat_le b 102 then Some (b - 87)
    else if nat_le 65 b && nat_le b 70 then Some (b - 55)
    else None

abbrev pub pair : Option ℕ → Option ℕ → Option ℕ
pair (Some h) (Some l) = Some (16 * h + l)
pair (Some h) None = None
pair None l = None

abbrev pub put : Option ℕ → Option (List ℕ) → Option (List ℕ)
put (Some b) (Some bs) = Some (b ∷ bs)
put (Some b) None = None
put None bs = None

-- two digits for each byte
unfoldable pub hex_bytes : List ℕ → Option (List ℕ)
hex_bytes [] = Some []
hex_bytes (h ∷ []) = None
hex_bytes (h ∷ l ∷ rest) = put (pair (digit h) (digit l)) (hex_bytes rest)

-- one byte in two digits
abbrev pub hex_byte : List ℕ → Option ℕ
hex_byte (h ∷ l ∷ []) = pair (digit h) (digit l)
hex_byte _ = None

-- half a byte in one digit
abbrev pub hex_half : List ℕ → Option ℕ
hex_half (b ∷ []) = digit b
hex_half _ = None

-- the values of words that are such
abbrev pub bytes_value : List ℕ → List ℕ
bytes_value word = unwrap_or (hex_bytes word) []

abbrev pub byte_value : List ℕ → ℕ
byte_value word = unwrap_or (hex_byte word) 0

abbrev pub half_value : List ℕ → ℕ
half_value word = unwrap_or (hex_half word) 0

pub at_most : (n : ℕ) (b : List ℕ) → length (take n b) ≤ n
at_most n b = omega (arith, length-take n b)

-- the first bytes, as many as there is room for, as a CDB and as sense data
unfoldable pub cdb_of : List ℕ → CdbBytes
cdb_of b =
    record {
      len = length (take 16 b);
      bytes = take 16 b ++ drop (length (take 16 b)) (replicate 16 0);
      padded = padded_made 16 (take 16 b) (drop (length (take 16 b)) (replicate 16 0)) (at_most 16 b) refl;
    }

unfoldable pub sense_of : List ℕ → SenseBytes
sense_of b =
    record {
      len = length (take 252 b);
      bytes = take 252 b ++ drop (length (take 252 b)) (replicate 252 0);
      padded = padded_made 252 (take 252 b) (drop (length (take 252 b)) (replicate 252 0)) (at_most 252 b) refl;
    }
