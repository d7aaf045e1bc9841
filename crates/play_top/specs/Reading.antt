-- What reading a script does.
use Rattle.std.specs.Prelude.{◌≡◌, ℕ, List, Option, None, Some, Result, Ok, Err, ⊤}
use Rattle.std.specs.Io.KnownBytes.{IsAtEnd}
use Rattle.mid_io.specs.Causes.{Rose}
use Rattle.script_text.specs.declared.script.Script.{Script}
use Rattle.script_text.specs.declared.script.Bad.{Bad}
use Rattle.script_text.specs.Script.{script_of}
use Rattle.script_text.specs.Playable.{IsPlayable}
use Rattle.play_top.specs.declared.reading.Unread.{Unread}
use Rattle.play_top.specs.declared.reading.Unread.TheVariants as unread

-- the most bytes that are read: the longest script and one more
abbrev pub most_bytes : ℕ
most_bytes = 16777217

-- what the bytes of a source say, where it tells them
abbrev pub Says : Option (List ℕ) → Result Script Bad → Type 0
Says None judged = (bytes : List ℕ) × (script_of bytes ≡ judged)
Says (Some bytes) judged = script_of bytes ≡ judged

-- nothing is left of a source that tells its bytes
abbrev pub IsReadOut : Option (List ℕ) → Option (List ℕ) → Type 0
IsReadOut None left_new = ⊤
IsReadOut (Some bytes) left_new = IsAtEnd left_new

-- what was left and is left, the source's faults before and after
abbrev pub ReadsScript : Option (List ℕ) → Option (List ℕ) → ℕ → ℕ → Result Script Unread → Type 0
ReadsScript left left_new before now (Ok script) = Says left (Ok script) × IsReadOut left left_new × IsPlayable script
ReadsScript left left_new before now (Err (unread.Bad bad)) = Says left (Err bad)
ReadsScript left left_new before now (Err unread.Fault) = Rose before now
ReadsScript left left_new before now (Err unread.NoMemory) = ⊤

-- what the bytes say; only want of memory is free
abbrev pub ScriptReads : List ℕ → Result Script Unread → Type 0
ScriptReads bytes (Ok script) = (script_of bytes ≡ Ok script) × IsPlayable script
ScriptReads bytes (Err (unread.Bad bad)) = script_of bytes ≡ Err bad
ScriptReads bytes (Err unread.Fault) = ⊥
ScriptReads bytes (Err unread.NoMemory) = ⊤
