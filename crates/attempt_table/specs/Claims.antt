-- The attempts that wait for their owner, each with its tag, in ascending numbers, by its answer before its expiry; and those that
-- have one and aren't settled.
use Rattle.std.specs.Prelude.{◌≡◌, ℕ, ◌<◌, Bool, true, false, ◌==◌, not, ◌&&◌, ◌||◌, List, [], ◌∷◌, Option, None, Some, is_some, if◌then◌else◌, filter, nat_lt}
use Rattle.mid_base.specs.declared.names.Tag.{Tag}
use Rattle.mid_base.specs.declared.names.Attempt.{Attempt}
use Rattle.mid_base.specs.declared.answers.By.{By}
use Rattle.mid_base.specs.declared.answers.By.TheVariants.{Answer as ByAnswer, Expiry as ByExpiry}
use Rattle.mid_base.specs.declared.entries.Entry.{Entry}
use Rattle.trace_model.specs.Attempts.{is_open, is_answered, is_due, owner, is_settled}
use Rattle.trace_model.specs.Steps.{same_owner}

abbrev pub Claim : Type 0
Claim = Tag × Attempt × By

abbrev pub is_by_answer : By → Bool
is_by_answer ByAnswer = true
is_by_answer by = false

-- attempt n waits to belong to its answer, or to its expiry
abbrev pub waits_for : List Entry → By → ℕ → Bool
waits_for P ByAnswer n = is_open n P && is_answered n P
waits_for P ByExpiry n = is_open n P && is_due n P

-- the claim is by this side
abbrev pub is_by : By → Claim → Bool
is_by by c = same_owner c.2 by

-- the claim c stands before x
abbrev pub goes_before : Claim → Claim → Bool
goes_before c x = nat_lt c.1.0 x.1.0 || ((c.1.0 == x.1.0) && is_by_answer c.2)

-- a claim at its place
abbrev pub claims_with : Claim → List Claim → List Claim
claims_with c [] = c ∷ []
claims_with c (x ∷ xs) = if goes_before c x then c ∷ x ∷ xs else x ∷ claims_with c xs

-- the claims of other attempts
abbrev pub claims_without : ℕ → List Claim → List Claim
claims_without n xs = filter (λ x. not (x.1.0 == n)) xs

-- n has an owner and isn't settled
abbrev pub is_unsettled : ℕ → List Entry → Bool
is_unsettled n P = is_some (owner n P) && not (is_settled n P)

-- the least attempt that has an owner and isn't settled, or none where there is no such attempt
abbrev pub IsNextOwned : List Entry → Option Attempt → Type 0
IsNextOwned P None = (n : ℕ) → is_unsettled n P ≡ false
IsNextOwned P (Some m) = (is_unsettled m.0 P ≡ true) × ((n : ℕ) → n < m.0 → is_unsettled n P ≡ false)
