use Rattle.mid_base.proofs.Same.{same_cdb}
use Rattle.mid_base.proofs.laws.equal_cdb_lists_are_equal.Goals as goal

pub returns : goal.returns
returns c a b e = same_cdb a b e
