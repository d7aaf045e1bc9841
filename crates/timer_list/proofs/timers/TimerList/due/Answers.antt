use Rattle.std.proofs.Common.{subst, sym, List}
use Rattle.std.specs.Prelude.{Option, None, Some}
use Rattle.mid_base.specs.declared.names.Attempt.{Attempt}
use Rattle.timer_list.specs.Timers.{Timer, Timers, IsFirstOf, IsFirstDue}
use Rattle.timer_list.proofs.Lists.{none_due, first_due}
use Rattle.timer_list.proofs.timers.TimerList.due.Goals as goal

pub returns-in_err-first : goal.returns-in_err-first
returns-in_err-first c =
    let none : IsFirstOf c.self.inside.by_deadline.items c.args.now.0 None =
    subst (λ (x : Option Timer). IsFirstOf c.self.inside.by_deadline.items c.args.now.0 x) c.in_err-first.was
    (subst (λ (ts : List Timer). IsFirstOf ts c.args.now.0 c.first_by.result) c.deref.ensures.value c.first_by.ensures)
    in
    let due : IsFirstDue c.args.self.now.timers c.args.now.0 None =
    subst (λ (v : Timers). IsFirstDue v.timers c.args.now.0 None) c.self.view_is (none_due c.self.inside.by_deadline.items c.args.now.0 none)
    in
    subst (λ (r : Option Attempt). IsFirstDue c.args.self.now.timers c.args.now.0 r) (sym c.from_residual.ensures) due

pub returns : goal.returns
returns c =
    let first : IsFirstOf c.self.inside.by_deadline.items c.args.now.0 (Some c.in_ok-first.first) =
    subst (λ (x : Option Timer). IsFirstOf c.self.inside.by_deadline.items c.args.now.0 x) c.in_ok-first.was
    (subst (λ (ts : List Timer). IsFirstOf ts c.args.now.0 c.first_by.result) c.deref.ensures.value c.first_by.ensures)
    in
    subst (λ (v : Timers). IsFirstDue v.timers c.args.now.0 (Some c.in_ok-first.first.0)) c.self.view_is
    (first_due c.self.inside.by_deadline.items c.args.now.0 c.in_ok-first.first c.self.invariant.0.by_deadline.differ first)
