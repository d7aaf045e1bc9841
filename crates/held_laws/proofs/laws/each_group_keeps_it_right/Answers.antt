use Rattle.held_laws.proofs.Groups.{group_right}
use Rattle.held_laws.proofs.laws.each_group_keeps_it_right.Goals as goal

pub returns : goal.returns
returns c = λ s P g old new each added same did h. group_right s P g old new each added same did h
