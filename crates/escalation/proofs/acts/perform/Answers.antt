use Rattle.std.proofs.Common.{sym, subst}
use Rattle.mid_base.specs.declared.answers.Scope.TheVariants.{Dev}
use Rattle.escalation.specs.declared.rungs.Rung.{Rung}
use Rattle.escalation.specs.Rungs.{level_at, scope_at}
use Rattle.escalation.specs.Acts.{IsAct}
use Rattle.escalation.proofs.Acting.{offline_act, begins_some}
use Rattle.escalation.proofs.acts.perform.Goals as goal

pub returns-in-GiveUp-clause-act : goal.returns-in-GiveUp-clause-act
returns-in-GiveUp-clause-act g c =
    let laws = g.met.A.HostTemplate g.world.𝓛 g.world.𝓜 g.world.𝓡 ((λ s x. x), (λ x. x), (λ x. x), λ x. x) in
    let at = g.A.HostTemplate.stands c.args.lower.now in
    let todo = c.args.chosen.now.todo.items in
    subst (λ (r : Rung). IsAct c.args.handlers (level_at r) (scope_at r) todo c.give_up.result at at c.give_up.new.told.entries.items) (sym c.in-GiveUp.is)
    (offline_act c.args.handlers (Dev c.in-GiveUp.dev) todo at c.give_up.result c.give_up.new.told.entries.items (begins_some (scope_at c.args.rung) todo c.requires.begins) (laws.silent c.args.lower.now) c.give_up.ensures.ok c.give_up.ensures.told)
