use Rattle.std.proofs.Common.{refl, inl}
use Rattle.mid_base.specs.declared.answers.By.TheVariants.{Expiry}
use Rattle.owner_laws.specs.Small.{attempt, small, small_spec, under}
use Rattle.owner_laws.proofs.small.its_waiting_claim_has_its_cause.Goals as goal

pub returns : goal.returns
returns c = c.waiting_claims_have_causes.ensures small_spec small (under 0) (attempt 1) Expiry c.it_is_legal.ensures.legal (inl refl)
