use Rattle.owner_laws.proofs.Causes.{waiting_caused}
use Rattle.owner_laws.proofs.laws.waiting_claims_have_causes.Goals as goal

pub returns : goal.returns
returns c = λ s journal t n by legal h. waiting_caused s journal t n by legal.each h
