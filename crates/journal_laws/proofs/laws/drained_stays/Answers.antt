use Rattle.journal_laws.proofs.Staying.{drained_on}
use Rattle.journal_laws.proofs.laws.drained_stays.Goals as goal

pub returns : goal.returns
returns c = λ s front back h. drained_on s front back h
