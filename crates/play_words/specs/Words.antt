-- Which lists of words are known: none, `--make N` and `--make=N`, each alone or with a last word `--`.
use Rattle.std.specs.Prelude.{ℕ, ◌==◌, ◌≤◌, Bool, not, ◌&&◌, nat_le, if◌then◌else◌, List, [], ◌∷◌, length, take, drop, slice_index, Option, Some, None, ⊤, codes}
use Rattle.std.specs.Str.{bytes_eq}
use Rattle.script_words.specs.Pieces.{number}
use Rattle.play_words.specs.declared.mode.Mode.{Mode}
use Rattle.play_words.specs.declared.mode.Mode.TheVariants.{Script, Make}

-- a number of commands: one to five digits, of which the first isn't 0
abbrev pub is_plain : List ℕ → Bool
is_plain word = nat_le (length word) 5 && not (slice_index word 0 == 48)

-- it is 1 to 20,000
abbrev pub within : Option ℕ → Option Mode
within (Some n) = if nat_le 1 n && nat_le n 20000 then Some (Make n) else None
within None = None

abbrev pub make : List ℕ → Option Mode
make word = if is_plain word then within (number word) else None

-- one word, in which the number stands behind the sign
abbrev pub joined : List ℕ → Option Mode
joined word = if bytes_eq (take 7 word) (codes "--make=") then make (drop 7 word) else None

abbrev pub is_end : List ℕ → Bool
is_end word = bytes_eq word (codes "--")

abbrev pub is_make : List ℕ → Bool
is_make word = bytes_eq word (codes "--make")

-- what each list of words asks for
abbrev pub mode_of : List (List ℕ) → Option Mode
mode_of [] = Some Script
mode_of (word ∷ []) = if is_end word then Some Script else joined word
mode_of (name ∷ word ∷ []) = if is_end word then joined name else if is_make name then make word else None
mode_of (name ∷ word ∷ end ∷ []) = if is_make name && is_end end then make word else None
mode_of _ = None

-- no more than 20,000 commands are asked for
abbrev pub IsFew : Option Mode → Type 0
IsFew (Some (Make n)) = n ≤ 20000
IsFew mode = ⊤
