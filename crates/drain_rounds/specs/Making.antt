-- What a step makes of a host's journal over the simulated adapter. P and Q have the newest entry first.
use Rattle.std.specs.Prelude.{◌≡◌, ℕ, Bool, true, false, List, Option, None, Some}
use Rattle.mid_base.specs.declared.entries.Entry.{Entry}
use Rattle.mid_base.specs.declared.steps.Step.{Step}
use Rattle.mid_base.specs.declared.steps.Why.{Why}
use Rattle.mid_base.specs.declared.host_spec.HostSpec.{HostSpec}
use Rattle.mid_base.specs.Past.{ticks}
use Rattle.host_template.specs.Standing.{Before}
use Rattle.trace_model.specs.Legal.{onto}
use Rattle.trace_model.specs.Steps.{barred}
use Rattle.adapter_tables.specs.Held.{held, is_due_held}
use Rattle.debug_adapter.specs.LowerRun.{LowerRun}
use Rattle.mid_core.specs.Steps.{AddsTo}

-- a host with the probes that were made on its units before, and what happened to it, the newest entry first
pub record HostRun : Type 0 where
  pub spec : HostSpec
  pub before : Before
  pub entries : List Entry

-- whether the host's adapter has an answer that is due after P
abbrev pub IsDueAfter : HostSpec → Before → List Entry → Bool → Type 0
IsDueAfter s b P true = (n : ℕ) × (is_due_held (ticks P) (held s b P n) ≡ true)
IsDueAfter s b P false = (n : ℕ) → is_due_held (ticks P) (held s b P n) ≡ false

-- Q comes from P by the step: it adds a group that begins with an opener of the step, and what it leaves is the adapter's
pub record Makes (s : HostSpec) (b : Before) (due : Bool) (P : List Entry) (step : Step) (Q : List Entry) : Type 0 where
  pub group : List Entry
  pub adds : AddsTo s due P step group
  pub after : Q ≡ onto group P
  pub lower : LowerRun s b Q

-- the step is made, or it is skipped by its first condition that fails, and then nothing has changed
abbrev pub ComesWhere : Bool → HostSpec → Before → List Entry → Step → Option Why → List Entry → Type 0
ComesWhere due s b P step None Q = Makes s b due P step Q
ComesWhere due s b P step (Some why) Q = (Q ≡ P) × (barred s due P step ≡ Some why)

abbrev pub Comes : HostSpec → Before → List Entry → Step → Option Why → List Entry → Type 0
Comes s b P step why Q = (due : Bool) × IsDueAfter s b P due × ComesWhere due s b P step why Q
