use Rattle.std.proofs.Common.{ℕ, List, ap, ◌∙◌}
use Rattle.report_text.specs.Order.{ascending}
use Rattle.report_text.proofs.InOrder.{sorted_is}
use Rattle.report_text.proofs.write.ids_in_order.Goals as goal

pub returns : goal.returns
returns c =
    sorted_is c.in_ok-ids.ids.items _ c.sort.ensures.permutation c.in_ok-sort.ensures.sorted
    ∙ ap (λ (ids : List ℕ). ascending (λ (x : ℕ). x) ids) c.in_ok-ids.ensures
