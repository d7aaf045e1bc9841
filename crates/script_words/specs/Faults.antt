-- What is wrong with a word at its place, and how the functions over words answer that.
use Rattle.std.specs.Prelude.{◌≡◌, ℕ, Bool, true, false, List, Vec, length, Option, Some, None, is_some, Result, Ok, Err}
use Rattle.std.specs.declared.alloc.Global.{Global}
use denote.Bor.{Bor}
use Rattle.mid_base.specs.Limits.{is_between, is_address}
use Rattle.script_words.specs.declared.kind.Kind.{Kind}
use Rattle.script_words.specs.declared.kind.Kind.TheVariants as kinds
use Rattle.script_words.specs.declared.kind.LineFault.{LineFault}
use Rattle.script_words.specs.declared.kind.LineFault.TheVariants as faults
use Rattle.script_words.specs.Pieces.{number}
use Rattle.script_words.specs.Hex.{hex_bytes}
use Rattle.script_words.specs.Words.{address}

abbrev pub kind_number : Kind → ℕ
kind_number kinds.Word = 1
kind_number kinds.Number = 2
kind_number kinds.Missing = 3
kind_number kinds.Extra = 4
kind_number kinds.Hex = 5
kind_number kinds.Twice = 6
kind_number kinds.Unknown = 7
kind_number kinds.Limit = 8
kind_number kinds.NoEnd = 9
kind_number kinds.AfterEnd = 10

-- this kind unless the test passes
abbrev pub unless_true : Kind → Bool → Option Kind
unless_true kind true = None
unless_true kind false = Some kind

-- the form first, then the range
abbrev pub form_and_range : {V : Type 0} → Kind → (V → Bool) → Option V → Option Kind
form_and_range form fits None = Some form
form_and_range form fits (Some v) = unless_true kinds.Limit (fits v)

abbrev pub number_fault : ℕ → ℕ → List ℕ → Option Kind
number_fault low high word = form_and_range kinds.Number (is_between low high) (number word)

abbrev pub address_fault : List ℕ → Option Kind
address_fault word = form_and_range kinds.Number is_address (address word)

abbrev pub bytes_fault : ℕ → List ℕ → Option Kind
bytes_fault most word = form_and_range kinds.Hex (λ b. is_between 1 most (length b)) (hex_bytes word)

-- a word that is read as one of a few, or not at all
abbrev pub choice_fault : {V : Type 0} → Kind → (List ℕ → Option V) → List ℕ → Option Kind
choice_fault kind read word = unless_true kind (is_some (read word))

-- the word at a place where one has to stand: what it says where nothing is wrong with it, else what is wrong
abbrev pub Gives : {V : Type 0} → (List ℕ → Option Kind) → (List ℕ → Option V) → Option (Bor (List ℕ)) → Result V Kind → Type 0
Gives fault read None result = result ≡ Err kinds.Missing
Gives fault read (Some word) (Ok v) = (fault word.now ≡ None) × (read word.now ≡ Some v)
Gives fault read (Some word) (Err kind) = fault word.now ≡ Some kind

-- the same of bytes in a `Vec`, unless memory ran out
abbrev pub BytesGive : ℕ → Option (Bor (List ℕ)) → Result (Vec ℕ Global) LineFault → Type 0
BytesGive most None result = result ≡ Err (faults.Bad kinds.Missing)
BytesGive most (Some word) (Ok v) = (bytes_fault most word.now ≡ None) × (hex_bytes word.now ≡ Some v.items)
BytesGive most (Some word) (Err faults.Memory) = Unit {0}
BytesGive most (Some word) (Err (faults.Bad kind)) = bytes_fault most word.now ≡ Some kind
