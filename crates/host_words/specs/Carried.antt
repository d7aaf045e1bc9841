-- What is out with a seat.
use Rattle.std.specs.Prelude.{ℕ, List, [], ◌∷◌, Option, None}
use Rattle.host_words.specs.declared.view.Stage.{Stage}
use Rattle.host_words.specs.declared.view.Stage.TheVariants.{Away, Waiting, Holding, Leaving}

-- the slots that are out with a seat: the one slot, which is empty while the state is in the caller's hands
abbrev pub carried : {S : Type 0} → Stage → List (ℕ × Option S)
carried Away = []
carried (Waiting t) = []
carried (Holding t u) = (0, None) ∷ []
carried (Leaving t u l) = []
