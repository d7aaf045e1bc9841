use Rattle.std.proofs.Common.{List, find, refl, ap}
use Rattle.disposition.specs.Ladder.{Pair, is_wanted_pair}
use Rattle.escalation.proofs.Climbs.{next_beyond}
use Rattle.escalation.proofs.laws.a_ladder_does_the_next_act_of_its_list.Goals as goal

pub returns-clause-first : goal.returns-clause-first
returns-clause-first c = λ all h aborts. refl

pub returns-clause-next : goal.returns-clause-next
returns-clause-next c = λ k all last above. ap (λ (ps : List Pair). find (is_wanted_pair k.aborts k.left) ps) above

pub returns-clause-ahead : goal.returns-clause-ahead
returns-clause-ahead c = λ k all last p es above next. next_beyond k all last p above next
