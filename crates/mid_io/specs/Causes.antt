-- Counts that stop at the last u64, and counts of faults that tell where a failure came from.
use Rattle.std.specs.Prelude.{ℕ, ◌+◌, ◌-◌, ◌^◌, ◌<◌, ◌≤◌, min, List, length, Result, OnErr, IfOk}

-- one more, or the last u64
abbrev pub counted_on : ℕ → ℕ
counted_on n = min (n + 1) (2 ^ 64 - 1)

-- the count rose, or stands at its last value
abbrev pub Rose : ℕ → ℕ → Type 0
Rose before now = counted_on before ≤ now

-- the count never falls, and a failure made it rise
pub record HasCause {T E : Type 0} (before now : ℕ) (result : Result T E) : Type 0 where
  pub later : before ≤ now
  pub failed : OnErr result (Rose before now)

-- something is taken of a piece that isn't empty
abbrev pub TakesSome : {E : Type 0} → Result ℕ E → List ℕ → Type 0
TakesSome result piece = IfOk result (λ k. 0 < length piece → 0 < k)
