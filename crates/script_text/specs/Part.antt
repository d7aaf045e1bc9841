-- The line that isn't over yet.
use Rattle.std.specs.Prelude.{◌≡◌, ℕ, ◌≤◌, true, not, List}
use Rattle.std.specs.List.{list_all}
use Rattle.script_words.specs.Pieces.{is_newline}

-- a part of a line, and counts of lines and bytes before its end
pub record IsPart (part : List ℕ) (before count : ℕ) : Type 0 where
  pub inside : list_all (λ b. not (is_newline b)) part ≡ true
  pub lines : before ≤ count
  pub bytes : count ≤ 16777216
