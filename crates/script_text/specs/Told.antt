-- What a reader will say.
use Rattle.std.specs.Prelude.{ℕ, ◌+◌, ◌-◌, nat_lt, List, ◌++◌, length, take, Bool, Option, Some, None, Result, Err}
use Rattle.script_words.specs.Pieces.{lines}
use Rattle.script_text.specs.declared.script.Script.{Script}
use Rattle.script_text.specs.declared.script.Bad.{Bad}
use Rattle.script_text.specs.declared.reader.Reader.{Reader}
use Rattle.script_text.specs.Said.{Said}
use Rattle.script_text.specs.Script.{judge_lines}
use Rattle.script_text.specs.Gives.{seen}

-- A bad line stays the first. Otherwise `count` bytes were read, which are `before` lines and this part of the next one.
abbrev pub told : Option Bad → ℕ → Said → List ℕ → ℕ → List ℕ → Result Script Bad
told (Some bad) before said part count more = Err bad
told None before said part count more =
    judge_lines (nat_lt 16777216 (count + length more)) (before + 1) said (lines (part ++ take (16777217 - count) more))

-- what a reader will say if this text comes yet
unfoldable pub says : Reader → List ℕ → Result Script Bad
says r more = told r.bad r.present.before (seen r.draft) r.present.part.items r.present.count more

-- an allocation failed, so nothing more is read
abbrev pub has_failed : Reader → Bool
has_failed r = r.failed
