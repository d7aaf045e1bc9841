use Rattle.climb_laws.proofs.Others.{again, told}
use Rattle.climb_laws.proofs.laws.a_flush_keeps_the_ladder.Goals as goal

pub returns-clause-again : goal.returns-clause-again
returns-clause-again c = λ s P k d counted e h. again s P k d counted e h

pub returns-clause-told : goal.returns-clause-told
returns-clause-told c = λ s P k d a e h. told s P k d a e h
