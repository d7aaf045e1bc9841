use Rattle.climb_laws.proofs.Others.{others}
use Rattle.climb_laws.proofs.laws.other_entries_keep_the_ladder.Goals as goal

pub returns : goal.returns
returns c = λ s P k e l h. others s P k e l h
