-- The attempts that wait for their owner, and the answers that are to be ignored, as the core tells them.
use Rattle.std.specs.Prelude.{◌≡◌, ℕ, ◌<◌, ◌==◌, ◌&&◌, if◌then◌else◌, List, [], ◌∷◌, ◌++◌, Option, None, Some}
use Rattle.mid_base.specs.declared.names.Attempt.{Attempt}
use Rattle.mid_base.specs.declared.names.Tag.{Tag}
use Rattle.mid_base.specs.declared.answers.By.{By}
use Rattle.mid_base.specs.declared.answers.By.TheVariants.{Answer as ByAnswer, Expiry as ByExpiry}
use Rattle.mid_base.specs.declared.entries.Entry.{Entry}
use Rattle.mid_base.specs.declared.entries.Entry.TheVariants.{Sent}
use Rattle.trace_model.specs.Attempts.{attempts, is_open, is_answered, is_due, late}

-- the tag that n was sent with
abbrev pub tag_for : ℕ → List Entry → Tag
tag_for n [] = record { 0 = 0 }
tag_for n (Sent c m t ∷ P) = if m.0 == n then t else tag_for n P
tag_for n (_ ∷ P) = tag_for n P

-- an attempt that waits for its owner, by its answer before its expiry
abbrev pub claims_of : List Entry → ℕ → List (Tag × Attempt × By)
claims_of P n =
    (if is_open n P && is_answered n P then (tag_for n P, record { 0 = n }, ByAnswer) ∷ [] else [])
    ++ (if is_open n P && is_due n P then (tag_for n P, record { 0 = n }, ByExpiry) ∷ [] else [])

abbrev pub claims_among : List Entry → List ℕ → List (Tag × Attempt × By)
claims_among P [] = []
claims_among P (n ∷ ns) = claims_among P ns ++ claims_of P n

-- the attempts that wait for their owner, in ascending numbers
abbrev pub waiting_claims : List Entry → List (Tag × Attempt × By)
waiting_claims P = claims_among P (attempts P)

-- the least attempt with an answer that is to be ignored, or none where there is no such answer
abbrev pub IsNextLate : List Entry → Option Attempt → Type 0
IsNextLate P None = (n : ℕ) → late n P ≡ 0
IsNextLate P (Some m) = (0 < late m.0 P) × ((n : ℕ) → n < m.0 → late n P ≡ 0)
