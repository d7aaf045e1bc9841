use Rattle.std.proofs.Common.{rules, tests, ◌≡◌, ◌∙◌, ◌==◌, Some, None, sym, ap}
use Rattle.std.specs.List.{position}
use Rattle.std.proofs.lemmas.Iterator.{YieldsList-from_slice}
use Rattle.std.proofs.lemmas.Iterator.Search.{position_from_yields_List}
use Rattle.attempt_table.proofs.Numbers.{times_less_where, times_where_none}
use Rattle.attempt_table.proofs.entries.drop_one.Goals as goal

pub returns-in-Some-clause-numbers : goal.returns-in-Some-clause-numbers
returns-in-Some-clause-numbers c = λ m.
    let xs = c.args.numbers.now.items in
    let found : c.position.result ≡ position (λ x. x == c.args.n) c.deref.result.now =
    position_from_yields_List (λ x. x == c.args.n) _ _ c.position.result c.position.ensures.ran (YieldsList-from_slice _ c.iter.ensures.rest) (λ x b q k. search (rules, tests))
    in
    let at : position (λ x. x == c.args.n) xs ≡ Some c.in-Some.place = ap (λ ys. position (λ x. x == c.args.n) ys) (sym c.deref.ensures.value) ∙ (sym found ∙ c.in-Some.is) in
    rw c.remove.ensures.items (times_less_where c.args.n m xs c.in-Some.place at)

pub returns-in-None-clause-numbers : goal.returns-in-None-clause-numbers
returns-in-None-clause-numbers c = λ m.
    let xs = c.args.numbers.now.items in
    let found : c.position.result ≡ position (λ x. x == c.args.n) c.deref.result.now =
    position_from_yields_List (λ x. x == c.args.n) _ _ c.position.result c.position.ensures.ran (YieldsList-from_slice _ c.iter.ensures.rest) (λ x b q k. search (rules, tests))
    in
    let at : position (λ x. x == c.args.n) xs ≡ None = ap (λ ys. position (λ x. x == c.args.n) ys) (sym c.deref.ensures.value) ∙ (sym found ∙ c.in-None.is) in
    times_where_none c.args.n m xs at
