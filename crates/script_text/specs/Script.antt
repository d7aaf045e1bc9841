-- What a whole script says, or its first bad line.
use Rattle.std.specs.Prelude.{ℕ, ◌+◌, nat_lt, nat_le, Bool, false, not, ◌&&◌, if◌then◌else◌, List, [], ◌∷◌, length, take, Option, Some, None, is_some, Result, Ok, Err}
use Rattle.script_words.specs.declared.keywords.Keyword.{Keyword}
use Rattle.script_words.specs.declared.keywords.Keyword.TheVariants as keys
use Rattle.script_words.specs.declared.kind.Kind.{Kind}
use Rattle.script_words.specs.declared.kind.Kind.TheVariants as kinds
use Rattle.script_words.specs.Pieces.{lines, words, is_last}
use Rattle.script_words.specs.Keywords.{keyword, is_remark}
use Rattle.script_words.specs.Faults.{kind_number, unless_true}
use Rattle.script_text.specs.declared.script.Script.{Script}
use Rattle.script_text.specs.declared.script.Bad.{Bad}
use Rattle.script_text.specs.Said.{Said, nothing}
use Rattle.script_text.specs.Slots.{slots, or_else, first_fault}
use Rattle.script_text.specs.Adds.{adds}

abbrev pub bad : ℕ → Kind → Bad
bad n kind = record { line = n; kind = kind_number kind }

-- the budget is said already
abbrev pub is_again : Said → Keyword → Bool
is_again said keys.BudgetLine = is_some said.budget
is_again said _ = false

-- there are as many lines of this kind as there may be
abbrev pub is_full : Said → Keyword → Bool
is_full said keys.HostLine = nat_le 64 (length said.hosts)
is_full said keys.PlanLine = nat_le 65536 said.plans
is_full said keys.CommandLine = nat_le 65536 (length said.ids)
is_full said _ = false

-- what is wrong with a line by its first word alone
abbrev pub keyword_fault : Said → Keyword → Option Kind
keyword_fault said k =
    or_else (unless_true kinds.Twice (not (is_again said k)))
    (or_else (unless_true kinds.AfterEnd (not said.ended)) (unless_true kinds.Limit (not (is_full said k))))

abbrev pub unless : Option Kind → Said → Result Said Kind
unless None said = Ok said
unless (Some kind) said = Err kind

-- the words behind the first one
abbrev pub judge_slots : Said → Keyword → List (List ℕ) → Result Said Kind
judge_slots said k rest = unless (first_fault said None (slots k) rest) (adds said k rest)

abbrev pub after_keyword : Option Kind → Result Said Kind → Result Said Kind
after_keyword None judged = judged
after_keyword (Some kind) judged = Err kind

abbrev pub judge_rest : Said → List (List ℕ) → Option Keyword → Result Said Kind
judge_rest said rest None = Err kinds.Word
judge_rest said rest (Some k) = after_keyword (keyword_fault said k) (judge_slots said k rest)

-- a line by its words; one without words and a remark say nothing
unfoldable pub judge : Said → List (List ℕ) → Result Said Kind
judge said [] = Ok said
judge said (word ∷ rest) = if is_remark word then Ok said else judge_rest said rest (keyword word)

-- the lines end before line n
abbrev pub whole : ℕ → Said → Result Script Bad
whole n said =
    if said.ended then Ok (record { hosts = said.hosts; scans = said.scans; steps = said.steps; budget = said.budget; drain = said.drain })
    else Err (bad n kinds.NoEnd)

abbrev pub at_line : ℕ → Said → Said
at_line n said = record said { line = n }

-- the first bad line counts
abbrev pub after_line : ℕ → (Said → Result Script Bad) → Result Said Kind → Result Script Bad
after_line n go_on (Ok said) = go_on said
after_line n go_on (Err kind) = Err (bad n kind)

-- the lines from number n on; where the text is cut, the last one is too long
unfoldable pub judge_lines : Bool → ℕ → Said → List (List ℕ) → Result Script Bad
judge_lines is_cut n said [] = whole n said
judge_lines is_cut n said (line ∷ rest) =
    if is_cut && is_last rest then Err (bad n kinds.Limit)
    else after_line n (λ s. judge_lines is_cut (n + 1) s rest) (judge (at_line n said) (words line))

-- what counts of a text: all bytes up to number 16,777,217, whose line is bad
abbrev pub counted : List ℕ → List ℕ
counted text = take 16777217 text

-- What a script says, or the line and kind of its first bad line. The line that has byte 16,777,217 is bad whatever its
-- words are, so no byte behind that one matters.
unfoldable pub script_of : List ℕ → Result Script Bad
script_of text = judge_lines (nat_lt 16777216 (length text)) 1 nothing (lines (counted text))
