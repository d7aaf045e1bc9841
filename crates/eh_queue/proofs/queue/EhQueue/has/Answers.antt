use Rattle.std.proofs.Common.{rules, tests, ◌≡◌, List, sym, ap, ◌∙◌}
use Rattle.std.specs.List.{list_any}
use Rattle.std.proofs.lemmas.Iterator.{YieldsList-from_slice}
use Rattle.std.proofs.lemmas.Iterator.Search.{any_from_yields_List}
use Rattle.eh_queue.specs.Failures.{Failure, is_of, is_failed}
use Rattle.eh_queue.proofs.queue.EhQueue.has.Goals as goal

pub returns : goal.returns
returns c =
    let found : c.any.result ≡ list_any (is_of c.args.c) c.deref.result.now =
    any_from_yields_List (is_of c.args.c) _ _ c.any.result c.any.ensures.ran (YieldsList-from_slice _ c.iter.ensures.rest) (λ x b q k. search (rules, tests))
    in
    sym (found ∙ (ap (λ (xs : List Failure). list_any (is_of c.args.c) xs) c.deref.ensures.value ∙ ap (λ q. is_failed c.args.c q.failed) c.self.view_is))
