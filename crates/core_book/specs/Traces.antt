-- The trace of a command, read from its oldest entry on.
use Rattle.std.specs.Prelude.{ℕ, ◌==◌, ◌||◌, Bool, false, List, [], ◌∷◌, Option, Some, if◌then◌else◌}
use Rattle.mid_base.specs.declared.entries.Entry.{Entry}
use Rattle.mid_base.specs.declared.entries.Entry.TheVariants.{Sent}
use Rattle.trace_model.specs.Commands.{is_own, is_of_attempt}

-- the entries of es that are of command c, where P, the newest first, stands before them
abbrev pub traced : ℕ → List Entry → List Entry → List Entry
traced c P [] = []
traced c P (e ∷ es) = if is_own c e || is_of_attempt c e P then e ∷ traced c (e ∷ P) es else traced c (e ∷ P) es

abbrev pub is_sending : ℕ → Entry → Bool
is_sending n (Sent c m t) = m.0 == n
is_sending n e = false

-- the command of a Sent, 0 where there is none
abbrev pub command_in : Option Entry → ℕ
command_in (Some (Sent c n t)) = c.0
command_in e = 0
