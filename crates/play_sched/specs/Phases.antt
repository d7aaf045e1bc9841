-- What the code's phases are.
use Rattle.std.specs.Prelude.{◌≡◌, Bool, true, List, [], ◌∷◌, Option, None, Some}
use Rattle.mid_base.specs.declared.entries.Entry.{Entry}
use Rattle.mid_base.specs.declared.answers.By.TheVariants.{Answer as ByAnswer, Expiry as ByExpiry}
use Rattle.mid_base.specs.declared.steps.Step.{Step}
use Rattle.mid_base.specs.declared.steps.Step.TheVariants as step
use Rattle.mid_base.specs.declared.steps.Why.{Why}
use Rattle.trace_model.specs.Steps.{barred}
use Rattle.drain_rounds.specs.Making.{HostRun}
use Rattle.drain_rounds.specs.Rounds.{Exhausts, Phase, alone, claim_answers, claim_expiries, for_each, hand_in, named, wake}
use Rattle.play_sched.specs.declared.phases.Phase.{Phase as Named}
use Rattle.play_sched.specs.declared.phases.Phase.TheVariants as phase
use Rattle.play_sched.specs.declared.rounds.Rest.{Rest}
use Rattle.play_sched.specs.Rest.{IsAwake, IsHandedInBelow, stops_none}

abbrev pub phase_of : Named → Phase
phase_of phase.Wake = wake
phase_of phase.Send = alone step.Send
phase_of phase.Work = alone step.Work
phase_of phase.Ask = alone step.Due
phase_of (phase.Claim ByAnswer) = claim_answers
phase_of (phase.Claim ByExpiry) = claim_expiries
phase_of phase.Settle = for_each step.Settle
phase_of phase.Drop = for_each step.Drop
phase_of phase.Abort = alone step.Abort
phase_of phase.EhBegin = alone step.EhBegin
phase_of phase.EhAct = alone step.EhAct
phase_of phase.EhFlush = alone step.EhFlush
phase_of phase.EhEnd = alone step.EhEnd

-- the phases of a round, in three parts
abbrev pub first_phases : List Phase
first_phases = wake ∷ hand_in ∷ []

abbrev pub middle_phases : List Phase
middle_phases =
    alone step.Send ∷ alone step.Work ∷ claim_answers ∷ alone step.Due ∷ alone step.Work ∷ claim_answers ∷ claim_expiries ∷ []

abbrev pub last_phases : List Phase
last_phases =
    for_each step.Settle ∷ for_each step.Drop ∷ alone step.Abort ∷ alone step.EhBegin ∷ alone step.EhAct ∷ alone step.EhFlush
    ∷ alone step.EhEnd ∷ []

-- a step that isn't barred
abbrev pub unless_barred : Option Why → Step → Option Step
unless_barred None t = Some t
unless_barred (Some why) t = None

-- what a phase names: nothing, or this step unless it is barred, which stops no device
abbrev pub IsNext : Phase → HostRun → Option Step → Type 0
IsNext f run None = (due : Bool) → named f run.spec due run.entries ≡ None
IsNext f run (Some t) = (stops_none t ≡ true) × ((due : Bool) → named f run.spec due run.entries ≡ unless_barred (barred run.spec due run.entries t) t)

-- whatever the phase comes to from the new journal on, it comes to from the old one
abbrev pub Continues : Phase → HostRun → HostRun → Type 0
Continues f old new = (Q : List Entry) → Exhausts f old.spec old.before new.entries Q → Exhausts f old.spec old.before old.entries Q

abbrev pub IsAtRest : Rest → HostRun → Type 0
IsAtRest rest run = (rest.handed_in ≡ true → IsHandedInBelow 64 run.spec run.entries) × (rest.awake ≡ true → IsAwake run.spec run.entries)
