-- What the reports of a journal hold. P has the newest entry first; commands are told by their ids.
use Rattle.std.specs.Prelude.{◌≡◌, ℕ, ◌==◌, if◌then◌else◌, List, [], ◌∷◌, Some, ⊤}
use Rattle.mid_base.specs.declared.entries.Entry.{Entry}
use Rattle.mid_base.specs.declared.entries.Entry.TheVariants.{Told}
use Rattle.trace_model.specs.Commands.{retries}
use Rattle.trace_model.specs.Flush.{verdict}

-- a report after P is the verdict on P
abbrev pub IsVerdict : List Entry → Entry → Type 0
IsVerdict P (Told c a) = verdict c.0 P ≡ Some a
IsVerdict P e = ⊤

-- each report is the verdict on what stands before it
abbrev pub ToldVerdicts : List Entry → Type 0
ToldVerdicts [] = ⊤
ToldVerdicts (e ∷ P) = IsVerdict P e × ToldVerdicts P

-- the retries that c had at its report
abbrev pub retries_told : ℕ → List Entry → ℕ
retries_told c [] = 0
retries_told c (Told d a ∷ P) = if d.0 == c then retries c P else retries_told c P
retries_told c (_ ∷ P) = retries_told c P
