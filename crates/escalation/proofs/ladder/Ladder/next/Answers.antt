use Rattle.std.proofs.Common.{Option, option_map, refl, sym, ap, ◌∙◌}
use Rattle.escalation.specs.declared.rungs.Rung.{Rung}
use Rattle.escalation.specs.Rungs.{pair_at}
use Rattle.escalation.proofs.Climbs.{none_left}
use Rattle.escalation.proofs.ladder.Ladder.next.Goals as goal

pub returns-in-None-clause-act : goal.returns-in-None-clause-act
returns-in-None-clause-act g c =
    let k = c.args.self.now in
    (none_left k.aborts k.left k.ahead c.wanted.ensures.climbing (sym c.wanted.ensures.next ∙ ap (λ (o : Option Rung). option_map pair_at o) c.in-None.is), refl)
