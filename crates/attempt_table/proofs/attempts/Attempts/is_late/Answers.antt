use Rattle.std.proofs.Common.{rules, tests, ◌≡◌, ℕ, ◌==◌, List, sym, ap, ◌∙◌}
use Rattle.std.specs.Prelude.{nat_lt}
use Rattle.std.specs.List.{list_any}
use Rattle.std.proofs.lemmas.Iterator.{YieldsList-from_slice}
use Rattle.std.proofs.lemmas.Iterator.Search.{any_from_yields_List}
use Rattle.attempt_table.proofs.Numbers.{times_any}
use Rattle.attempt_table.proofs.attempts.Attempts.is_late.Goals as goal

pub returns : goal.returns
returns c = λ s P tells.
    let n = c.args.n.0 in
    let found : c.any.result ≡ list_any (λ (m : ℕ). m == n) c.deref.result.now =
    any_from_yields_List (λ (m : ℕ). m == n) _ _ c.any.result c.any.ensures.ran (YieldsList-from_slice _ c.iter.ensures.rest) (λ x b q k. search (rules, tests))
    in
    ap (nat_lt 0) (tells.0.lates_are n) ∙ times_any n c.args.self.now.lates.items
    ∙ sym (found ∙ ap (λ (xs : List ℕ). list_any (λ (m : ℕ). m == n) xs) c.deref.ensures.value)
