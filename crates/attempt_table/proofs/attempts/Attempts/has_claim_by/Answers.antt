use Rattle.std.proofs.Common.{rules, tests, ◌≡◌, List, sym, ap, ◌∙◌}
use Rattle.std.specs.List.{list_any}
use Rattle.std.proofs.lemmas.Iterator.{YieldsList-from_slice}
use Rattle.std.proofs.lemmas.Iterator.Search.{any_from_yields_List}
use Rattle.attempt_table.specs.Claims.{Claim, is_by}
use Rattle.attempt_table.proofs.attempts.Attempts.has_claim_by.Goals as goal

pub returns : goal.returns
returns c =
    let by = is_by c.args.by in
    let found : c.any.result ≡ list_any by c.deref.result.now =
    any_from_yields_List by _ _ c.any.result c.any.ensures.ran (YieldsList-from_slice _ c.iter.ensures.rest) (λ x b q k. search (rules, tests))
    in
    sym (found ∙ ap (λ (xs : List Claim). list_any by xs) c.deref.ensures.value)
