use Rattle.std.proofs.Common.{List, ap, sym, ◌∙◌}
use Rattle.std.specs.List.{list_any}
use Rattle.trace_model.specs.Attempts.{attempts}
use Rattle.attempt_table.specs.Claims.{Claim, is_by}
use Rattle.attempt_table.proofs.Queries.{claim_some}
use Rattle.attempt_table.proofs.attempts.Attempts.has_claim.Goals as goal

pub returns : goal.returns
returns c = λ s P tells.
    claim_some P c.args.by (attempts P) ∙ ap (λ (xs : List Claim). list_any (is_by c.args.by) xs) (sym tells.0.claims) ∙ c.has_claim_by.ensures
