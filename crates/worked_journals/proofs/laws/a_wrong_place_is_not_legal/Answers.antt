use Rattle.worked_journals.proofs.Fronts.{wrong_place}
use Rattle.worked_journals.proofs.laws.a_wrong_place_is_not_legal.Goals as goal

pub returns : goal.returns
returns c s i journal wrong legal = wrong_place s i journal wrong legal
