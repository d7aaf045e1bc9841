-- What is over once it is done: the lanes of a host are handed in, and its devices run. P has the newest entry first.
use Rattle.std.specs.Prelude.{◌≡◌, ◌<◌, ℕ, Bool, true, false, List, Option, None, Some}
use Rattle.mid_base.specs.declared.names.Attempt.{Attempt}
use Rattle.mid_base.specs.declared.answers.By.{By}
use Rattle.mid_base.specs.declared.entries.Entry.{Entry}
use Rattle.mid_base.specs.declared.states.DeviceState.TheVariants.{Running}
use Rattle.mid_base.specs.declared.steps.Step.{Step}
use Rattle.mid_base.specs.declared.steps.Step.TheVariants.{SetState}
use Rattle.mid_base.specs.declared.host_spec.HostSpec.{HostSpec}
use Rattle.trace_model.specs.Sending.{next_of_lane}
use Rattle.attempt_table.specs.Claims.{waits_for}
use Rattle.drain_rounds.specs.Making.{HostRun}
use Rattle.drain_rounds.specs.Rounds.{first_stopped}

-- nothing is left to hand in, in the lanes below n
abbrev pub IsHandedInBelow : ℕ → HostSpec → List Entry → Type 0
IsHandedInBelow n s P = (lane : ℕ) → lane < n → next_of_lane s P lane ≡ None

-- no device is stopped
abbrev pub IsAwake : HostSpec → List Entry → Type 0
IsAwake s P = first_stopped s P s.luns ≡ None

-- the least attempt that waits for its answer, or its expiry, to own it; None where there is none
abbrev pub IsFirstClaim : By → List Entry → Option Attempt → Type 0
IsFirstClaim by P None = (n : ℕ) → waits_for P by n ≡ false
IsFirstClaim by P (Some m) = (waits_for P by m.0 ≡ true) × ((n : ℕ) → n < m.0 → waits_for P by n ≡ false)

-- the step stops no device
abbrev pub stops_none : Step → Bool
stops_none (SetState d Running) = true
stops_none (SetState d x) = false
stops_none step = true

-- a host goes on: what is over stays so
pub record GoesOn (old new : HostRun) : Type 0 where
  pub spec : new.spec ≡ old.spec
  pub before : new.before ≡ old.before
  pub handed : (n : ℕ) → IsHandedInBelow n old.spec old.entries → IsHandedInBelow n new.spec new.entries
  pub awake : IsAwake old.spec old.entries → IsAwake new.spec new.entries
