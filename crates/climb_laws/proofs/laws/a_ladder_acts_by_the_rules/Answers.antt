use Rattle.climb_laws.proofs.Acts.{leads_on}
use Rattle.climb_laws.proofs.laws.a_ladder_acts_by_the_rules.Goals as goal

pub returns : goal.returns
returns c = λ s P k level scope ok es x. leads_on s P k level scope ok es x
