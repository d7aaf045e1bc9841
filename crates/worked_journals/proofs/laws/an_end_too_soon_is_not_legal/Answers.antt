use Rattle.worked_journals.proofs.laws.an_end_too_soon_is_not_legal.Goals as goal

pub returns : goal.returns
returns c s journal ends legal = ends.1 legal.ended
