use Rattle.std.proofs.Common.{rules, not, ◌==◌}
use Rattle.std.proofs.lemmas.Fn.{filter_same}
use Rattle.attempt_table.specs.Claims.{Claim}
use Rattle.attempt_table.proofs.claims.unclaim.Goals as goal

pub returns-clause-claims : goal.returns-clause-claims
returns-clause-claims c = filter_same _ (λ (x : Claim). not (x.1.0 == c.args.n.0)) _ (λ x b f' k. search rules) _ _ c.retain.ensures.filtered
