use Rattle.std.proofs.Common.{rules, tests, ◌≡◌, ◌∙◌, Option, ℕ, length, ap}
use Rattle.std.specs.Prelude.{unwrap_or}
use Rattle.std.specs.List.{position}
use Rattle.std.proofs.lemmas.Iterator.{YieldsList-from_slice}
use Rattle.std.proofs.lemmas.Iterator.Search.{position_from_yields_List}
use Rattle.attempt_table.specs.Claims.{goes_before}
use Rattle.attempt_table.proofs.claims.place_of.Goals as goal

pub returns : goal.returns
returns c =
    let before = goes_before c.args.claim.now in
    let found : c.position-later.result ≡ position before c.args.claims.now =
    position_from_yields_List before _ _ c.position-later.result c.position-later.ensures.ran (YieldsList-from_slice _ c.iter.ensures.rest) (λ x b q k. search (rules, tests))
    in
    c.unwrap_or.ensures ∙ ap (λ (o : Option ℕ). unwrap_or o (length c.args.claims.now)) found
