use Rattle.std.proofs.Common.{◌≡◌, ◌∙◌, Bool, true, sym, subst}
use Rattle.mid_base.specs.Levels.{abort, calls}
use Rattle.mid_base.specs.declared.answers.Scope.TheVariants.{Cmd}
use Rattle.escalation.specs.declared.rungs.Rung.{Rung}
use Rattle.escalation.specs.Rungs.{level_at, scope_at}
use Rattle.escalation.specs.Acts.{IsTried, BeginsIn}
use Rattle.escalation.proofs.Acting.{abort_tried}
use Rattle.escalation.proofs.acts.try_call.Goals as goal

pub returns-in-Abort-clause-tried : goal.returns-in-Abort-clause-tried
returns-in-Abort-clause-tried g c =
    let h = c.args.handlers in
    let k = c.in-Abort.field-0 in
    let todo = c.args.chosen.now.todo.items in
    let old = g.A.HostTemplate.stands c.args.lower.now in
    let new = g.A.HostTemplate.stands c.abort.new.self in
    let begins : BeginsIn (Cmd k) todo = subst (λ (r : Rung). BeginsIn (scope_at r) todo) c.in-Abort.is c.requires.begins in
    let can : calls h abort ≡ true = subst (λ (r : Rung). calls h (level_at r) ≡ true) c.in-Abort.is (sym c.can_call.ensures ∙ c.if-not-can_call.false) in
    subst (λ (r : Rung). IsTried h (level_at r) (scope_at r) todo c.succeeded.result old new) (sym c.in-Abort.is)
    (subst (λ (b : Bool). IsTried h abort (Cmd k) todo b old new) (sym c.succeeded.ensures)
    (abort_tried h k todo c.index-x.result.now c.abort.result old new begins c.index-x.ensures can c.abort.ensures.stands))
