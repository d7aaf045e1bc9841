use Rattle.mid_base.proofs.Same.{same_sense}
use Rattle.mid_base.proofs.laws.equal_sense_lists_are_equal.Goals as goal

pub returns : goal.returns
returns c a b e = same_sense a b e
