-- When a step is enabled: some entry that opens it may stand.
use Rattle.std.specs.Prelude.{◌≡◌, ◌<◌, ◌+◌, ◌↔◌, Bool, true, false, not, List, Option, None, Some}
use Rattle.mid_base.specs.declared.entries.Entry.{Entry}
use Rattle.mid_base.specs.declared.steps.Step.{Step}
use Rattle.mid_base.specs.declared.steps.Step.TheVariants.{Work, Tick}
use Rattle.mid_base.specs.declared.steps.Why.{Why}
use Rattle.mid_base.specs.declared.steps.Why.TheVariants.{Spent}
use Rattle.mid_base.specs.declared.host_spec.HostSpec.{HostSpec}
use Rattle.mid_base.specs.Past.{ticks}
use Rattle.trace_model.specs.Attempts.{sends}
use Rattle.trace_model.specs.Rules.{Allowed}
use Rattle.mid_base.specs.Limits.{last_number}
use Rattle.trace_model.specs.Steps.{opens, barred}

-- where nothing is owed after P: an entry that opens the step may stand
pub record IsEnabled (s : HostSpec) (P : List Entry) (step : Step) : Type 0 where
  pub opener : Entry
  pub opens_it : opens s P step opener ≡ true
  pub may_stand : Allowed s P opener

-- what the lower layer has to say: an answer is taken where one is due, and time goes on where none is
abbrev pub is_let : Bool → Step → Bool
is_let due Work = due
is_let due Tick = not due
is_let due step = true

-- a rule of journals bars the step; that numbers are used up is no such rule
abbrev pub bars : Option Why → Bool
bars None = false
bars (Some Spent) = false
bars (Some why) = true

-- no rule bars the step exactly where the lower layer lets it be and an entry that opens it may stand
abbrev pub IsRightlyBarred : HostSpec → List Entry → Step → Type 0
IsRightlyBarred s P step = (due : Bool) → (bars (barred s due P step) ≡ false) ↔ ((is_let due step ≡ true) × IsEnabled s P step)

-- numbers of attempts and of ticks are left
pub record HasNumbers (P : List Entry) : Type 0 where
  pub attempts : sends P + 1 < last_number
  pub ticks_left : ticks P < last_number
