-- All steps.
use Rattle.std.proofs.Common.{◌≡◌, ◌↔◌, Bool, true, List, reverse, None}
use Rattle.mid_base.specs.declared.entries.Entry.{Entry}
use Rattle.mid_base.specs.declared.steps.Step.{Step}
use Rattle.mid_base.specs.declared.steps.Step.TheVariants.{Submit, Send, Work, Due as AskDue, Own, Settle, Drop, Abort, EhBegin as Begin, EhAct, EhFlush, EhEnd as End, Tick as GoOn, SetState}
use Rattle.mid_base.specs.declared.host_spec.HostSpec.{HostSpec}
use Rattle.mid_base.specs.Limits.{differ_in_id}
use Rattle.trace_model.specs.Steps.{barred}
use Rattle.trace_model.specs.Legal.{ByPlaces, Legal}
use Rattle.trace_model.proofs.Readings.{by_places}
use Rattle.step_laws.specs.Enabled.{HasNumbers, IsEnabled, IsRightlyBarred, is_let}
use Rattle.step_laws.proofs.Numbers.{with_numbers}
use Rattle.step_laws.proofs.Sends.{submit, send}
use Rattle.step_laws.proofs.Simple.{work, asks, owns, drops, aborting, begins, ends, goes_on, sets}
use Rattle.step_laws.proofs.Settles.{settles}
use Rattle.step_laws.proofs.Flushes.{flushes}
use Rattle.step_laws.proofs.Acts.{acts}

pub each_step : (s : HostSpec) (P : List Entry) (step : Step) → differ_in_id s.cmds ≡ true → ByPlaces s P → IsRightlyBarred s P step
each_step s P (Submit lane) d legal = submit s P lane d
each_step s P Send d legal = send s P
each_step s P Work d legal = work s P
each_step s P AskDue d legal = asks s P
each_step s P (Own n by) d legal = owns s P n by
each_step s P (Settle n) d legal = settles s P n legal.each
each_step s P (Drop n) d legal = drops s P n
each_step s P Abort d legal = aborting s P
each_step s P Begin d legal = begins s P
each_step s P EhAct d legal = acts s P legal.each legal.ended
each_step s P EhFlush d legal = flushes s P legal.each
each_step s P End d legal = ends s P
each_step s P GoOn d legal = goes_on s P
each_step s P (SetState e x) d legal = sets s P e x

pub each_legal : (s : HostSpec) (journal : List Entry) (step : Step) → differ_in_id s.cmds ≡ true → Legal s journal → IsRightlyBarred s (reverse journal) step
each_legal s journal step d legal = each_step s (reverse journal) step d (by_places s (reverse journal) legal)

pub each_numbered : (s : HostSpec) (journal : List Entry) (step : Step) → differ_in_id s.cmds ≡ true → Legal s journal → HasNumbers (reverse journal)
    → (due : Bool) → (barred s due (reverse journal) step ≡ None) ↔ ((is_let due step ≡ true) × IsEnabled s (reverse journal) step)
each_numbered s journal step d legal numbers due = with_numbers s (reverse journal) step numbers (each_legal s journal step d legal) due
