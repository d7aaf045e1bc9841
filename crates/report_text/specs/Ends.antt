-- The answers of writing a text.
use Rattle.std.specs.Prelude.{ℕ, List, Option, Result, Ok, Err}
use Rattle.std.specs.Io.KnownBytes.{Appends}
use Rattle.mid_io.specs.Causes.{Rose}
use Rattle.mid_io.specs.Whole.{IsCutShort}
use Rattle.report_text.specs.declared.lines.WriteEnd.{WriteEnd}
use Rattle.report_text.specs.declared.lines.WriteEnd.TheVariants.{Fault, NoMemory}

-- what was written before and after, the text, the sink's faults before and after
abbrev pub WritesText : Option (List ℕ) → Option (List ℕ) → List ℕ → ℕ → ℕ → Result (Unit {0}) WriteEnd → Type 0
WritesText old new text before now (Ok u) = Appends old new text
WritesText old new text before now (Err Fault) = Rose before now × IsCutShort old new text
WritesText old new text before now (Err NoMemory) = IsCutShort old new text
