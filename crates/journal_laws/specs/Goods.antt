-- What a command was told, and when an attempt was answered. P has the newest entry first.
use Rattle.std.specs.Prelude.{ℕ, ◌==◌, ◌&&◌, if◌then◌else◌, List, [], ◌∷◌, Option, None, Some}
use Rattle.mid_base.specs.declared.answers.Answer.{Answer}
use Rattle.mid_base.specs.declared.entries.Entry.{Entry}
use Rattle.mid_base.specs.declared.entries.Entry.TheVariants.{Ready, Told}
use Rattle.mid_base.specs.Past.{ticks}
use Rattle.trace_model.specs.Attempts.{is_wanted}

-- the answer that c was told
abbrev pub told : ℕ → List Entry → Option Answer
told c [] = None
told c (Told d a ∷ P) = if d.0 == c then Some a else told c P
told c (_ ∷ P) = told c P

-- the tick of the good Ready of n
abbrev pub ready_at : ℕ → List Entry → Option ℕ
ready_at n [] = None
ready_at n (Ready m a ∷ P) = if (m.0 == n) && is_wanted n P then Some (ticks P) else ready_at n P
ready_at n (_ ∷ P) = ready_at n P
