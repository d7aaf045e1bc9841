-- What reading to the end and writing to the end do.
use Rattle.std.specs.Prelude.{Vec, ◌≡◌, ℕ, ◌≤◌, List, ◌++◌, length, take, Option, None, Some, Result, Ok, Err, ⊤}
use Rattle.std.specs.declared.alloc.Global.{Global}
use Rattle.std.specs.Io.KnownBytes.{Appends, Consumes}
use Rattle.mid_io.specs.Causes.{Rose}
use Rattle.mid_io.specs.declared.ends.Failed.{Failed}
use Rattle.mid_io.specs.declared.reading.ReadFault.{ReadFault}
use Rattle.mid_io.specs.declared.reading.ReadFault.TheVariants as faults

-- these are all the bytes
abbrev pub IsAll : Option (List ℕ) → List ℕ → Type 0
IsAll None bytes = ⊤
IsAll (Some xs) bytes = xs ≡ bytes

-- these are all the bytes, or the first `most` where there are more
abbrev pub IsFront : Option (List ℕ) → ℕ → List ℕ → Type 0
IsFront None most bytes = length bytes ≤ most
IsFront (Some xs) most bytes = bytes ≡ take most xs

-- an answer of reading all: what is left before, how many at most, the faults before and after
abbrev pub ReadsAll : Option (List ℕ) → ℕ → ℕ → ℕ → Result (Vec ℕ Global) ReadFault → Type 0
ReadsAll left most before now (Ok bytes) = IsFront left most bytes.items
ReadsAll left most before now (Err faults.Failed) = Rose before now
ReadsAll left most before now (Err faults.NoMemory) = ⊤

-- no more than so many bytes were taken from what was left
abbrev pub TakesAtMost : Option (List ℕ) → Option (List ℕ) → ℕ → Type 0
TakesAtMost old new most = (bytes : List ℕ) × (length bytes ≤ most) × Consumes old new bytes

-- a front of these bytes went out
abbrev pub IsCutShort : Option (List ℕ) → Option (List ℕ) → List ℕ → Type 0
IsCutShort old new bytes = (front : List ℕ) × (rest : List ℕ) × (front ++ rest ≡ bytes) × Appends old new front

-- an answer of writing all: what was written before and after, the bytes, the faults before and after
abbrev pub WritesAll : Option (List ℕ) → Option (List ℕ) → List ℕ → ℕ → ℕ → Result (Unit {0}) Failed → Type 0
WritesAll old new bytes before now (Ok u) = Appends old new bytes
WritesAll old new bytes before now (Err e) = Rose before now × IsCutShort old new bytes
