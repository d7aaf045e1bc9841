-- Lines, words and numbers of a text.
use Rattle.std.specs.Prelude.{ℕ, ◌+◌, ◌-◌, ◌*◌, ◌==◌, nat_lt, nat_le, Bool, true, false, ◌&&◌, ◌||◌, if◌then◌else◌, List, [], ◌∷◌, length, fold, filter, Option, Some, None, unwrap_or}
use Rattle.std.specs.List.{list_all, onto_first, slice_split}
use denote.Bor.{Bor}

-- the pieces that end at a byte that passes `ends`; the last may lack that byte
abbrev pub pieces : (ℕ → Bool) → List ℕ → List (List ℕ)
pieces ends [] = []
pieces ends (b ∷ bs) = if ends b then [] ∷ pieces ends bs else onto_first b (pieces ends bs)

abbrev pub is_newline : ℕ → Bool
is_newline b = b == 10

unfoldable pub lines : List ℕ → List (List ℕ)
lines text = pieces is_newline text

-- no line is left
abbrev pub is_last : List (List ℕ) → Bool
is_last [] = true
is_last (line ∷ rest) = false

-- space, tab and carriage return
abbrev pub is_blank : ℕ → Bool
is_blank b = (b == 32) || (b == 9) || (b == 13)

abbrev pub is_nonempty : List ℕ → Bool
is_nonempty [] = false
is_nonempty (b ∷ bs) = true

-- the words of a line: blanks part them, as many as there are
unfoldable pub words : List ℕ → List (List ℕ)
words line = filter is_nonempty (pieces is_blank line)

-- the parts between bytes c: one more than there are such bytes, and each may be empty
unfoldable pub parts : ℕ → List ℕ → List (List ℕ)
parts c text = slice_split (λ b. b == c) text

-- those of the text that is left, if some is
abbrev pub parts_left : ℕ → Option (Bor (List ℕ)) → List (List ℕ)
parts_left c None = []
parts_left c (Some rest) = parts c rest.now

abbrev pub is_digit : ℕ → Bool
is_digit b = nat_le 48 b && nat_le b 57

-- the value of decimal digits
abbrev pub value_of : List ℕ → ℕ
value_of digits = fold (λ n d. 10 * n + (d - 48)) 0 digits

-- one to twenty decimal digits; leading zeros may stand
unfoldable pub number : List ℕ → Option ℕ
number word = if nat_lt 0 (length word) && nat_le (length word) 20 && list_all is_digit word then Some (value_of word) else None

-- the number of a word that is one
abbrev pub value : List ℕ → ℕ
value word = unwrap_or (number word) 0
