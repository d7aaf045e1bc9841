use Rattle.std.proofs.Common.{reverse}
use Rattle.trace_model.proofs.After.{none_after}
use Rattle.journal_laws.proofs.Verdicts.{retries_stay}
use Rattle.journal_laws.proofs.laws.reported_retries_stay.Goals as goal

pub returns : goal.returns
returns k = λ s journal c legal told. retries_stay c (reverse journal) (none_after s c (reverse journal) legal.each) told
