use Rattle.std.proofs.Common.{◌≡◌, ◌∙◌, ℕ, List, length, Bool, true, cond, ap}
use Rattle.std.specs.Prelude.{insert, unwrap_or, is_ok}
use Rattle.std.specs.List.{position, position_or_len}
use Rattle.attempt_table.specs.Claims.{Claim, goes_before}
use Rattle.attempt_table.proofs.Claimed.{put_place, put_is}
use Rattle.attempt_table.proofs.claims.claim.Goals as goal

pub returns-clause-claims : goal.returns-clause-claims
returns-clause-claims c =
    let before = goes_before c.args.claim in
    let one : Claim = c.args.claim in
    let xs = c.args.claims.now.items in
    let place : c.place_of-place.result ≡ position_or_len before xs =
    (c.place_of-place.ensures ∙ ap (λ (ys : List Claim). unwrap_or (position before ys) (length ys)) c.deref.ensures.value) ∙ put_place before xs
    in
    let done : is_ok c.insert.result ≡ true = c.insert.ensures.succeeds c.requires in
    c.insert.ensures.items
    ∙ (ap (λ (b : Bool). cond b (insert xs c.place_of-place.result one) xs) done ∙ (ap (λ (k : ℕ). insert xs k one) place ∙ put_is one xs))
