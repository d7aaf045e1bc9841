use Rattle.trace_model.proofs.Permitted.{permitted}
use Rattle.trace_model.proofs.laws.owed_entries_are_permitted.Goals as goal

pub returns : goal.returns
returns c = λ s P e each m. permitted s P e each m
