use Rattle.climb_laws.proofs.Others.{same_next, same_left}
use Rattle.climb_laws.proofs.laws.a_ladder_does_the_next_act_of_its_journal.Goals as goal

pub returns-clause-next : goal.returns-clause-next
returns-clause-next c = λ s P k h. same_next s P k h

pub returns-clause-left : goal.returns-clause-left
returns-clause-left c = λ s P k h. same_left s P k h
