-- The pieces of a line: numbers, hex digits, addresses, answers.
use Rattle.std.specs.Prelude.{ℕ, ◌+◌, ◌/◌, ◌%◌, nat_lt, if◌then◌else◌, List, [], ◌∷◌, ◌++◌, codes}
use Rattle.std.specs.List.{flat_map, join_with_byte}
use Rattle.std.specs.Fmt.{decimal}
use Rattle.mid_base.specs.Bytes.{sense_list}
use Rattle.mid_base.specs.declared.names.DevAddr.{DevAddr}
use Rattle.mid_base.specs.declared.answers.Answer.{Answer}
use Rattle.mid_base.specs.declared.answers.ProbeSay.{ProbeSay}
use Rattle.mid_base.specs.declared.answers.ProbeSay.TheVariants.{Answered, Silent}
use Rattle.mid_base.specs.declared.answers.Scope.{Scope}
use Rattle.mid_base.specs.declared.answers.Scope.TheVariants.{Cmd, Dev, Target, Bus, Host}

-- words with a space between
abbrev pub in_words : List (List ℕ) → List ℕ
in_words words = join_with_byte 32 words

-- numbers with a colon between
abbrev pub in_colons : List (List ℕ) → List ℕ
in_colons numbers = join_with_byte 58 numbers

-- a line of words, which ends with a newline
abbrev pub line : List (List ℕ) → List ℕ
line words = in_words words ++ (10 ∷ [])

-- a hex digit, in lower case
abbrev pub hex_digit : ℕ → ℕ
hex_digit d = if nat_lt d 10 then 48 + d else 87 + d

-- a byte in two hex digits
abbrev pub hex_byte : ℕ → List ℕ
hex_byte b = hex_digit (b / 16) ∷ hex_digit (b % 16) ∷ []

abbrev pub hex_text : List ℕ → List ℕ
hex_text bytes = flat_map hex_byte bytes

-- `C:T:L`
abbrev pub address_text : DevAddr → List ℕ
address_text d = in_colons (decimal d.channel ∷ decimal d.target ∷ decimal d.lun ∷ [])

-- the sense of an answer: hex, or `-` where it has none
abbrev pub sense_text : List ℕ → List ℕ
sense_text [] = codes "-"
sense_text (b ∷ bs) = hex_text (b ∷ bs)

-- `HH SS MOVED SUM SENSE`
abbrev pub answer_words : Answer → List (List ℕ)
answer_words a = hex_byte a.host.0 ∷ hex_byte a.status ∷ decimal a.moved ∷ decimal a.sum ∷ sense_text (sense_list a.sense) ∷ []

abbrev pub answer_text : Answer → List ℕ
answer_text a = in_words (answer_words a)

-- what an act of recovery is aimed at
abbrev pub scope_text : Scope → List ℕ
scope_text (Cmd c) = decimal c.0
scope_text (Dev d) = address_text d
scope_text (Target c t) = in_colons (decimal c ∷ decimal t ∷ [])
scope_text (Bus c) = decimal c
scope_text Host = codes "-"

-- what came of a command of recovery
abbrev pub said_words : ProbeSay → List (List ℕ)
said_words (Answered a) = answer_words a
said_words Silent = codes "silent" ∷ []
