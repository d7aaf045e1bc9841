-- Whether the value at a key of the table of held attempts passes a test.
use Rattle.std.specs.Prelude.{Bool, false, Option, None, Some}
use Rattle.adapter_tables.specs.declared.held.Held.{Held}

abbrev pub passes : (Held → Bool) → Option Held → Bool
passes f None = false
passes f (Some h) = f h
