-- What reading a script answers.
use Rattle.std.specs.Prelude.{◌≡◌, Result, Ok, Err, ⊤}
use Rattle.script_text.specs.declared.script.Script.{Script}
use Rattle.script_text.specs.declared.script.Bad.{Bad}
use Rattle.script_text.specs.declared.script.ReadEnd.{ReadEnd}
use Rattle.script_text.specs.declared.script.ReadEnd.TheVariants as ends

-- a good script as it was judged, a bad one by its first bad line; only want of memory is free
abbrev pub Answers : Result Script Bad → Result Script ReadEnd → Type 0
Answers judged (Ok script) = judged ≡ Ok script
Answers judged (Err (ends.Bad bad)) = judged ≡ Err bad
Answers judged (Err ends.NoMemory) = ⊤
