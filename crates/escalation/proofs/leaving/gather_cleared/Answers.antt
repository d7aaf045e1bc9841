use Rattle.std.proofs.Common.{ap, ◌∙◌}
use Rattle.std.specs.List.{list_any}
use Rattle.std.proofs.lemmas.List.{take_all}
use Rattle.std.proofs.lemmas.List.Sorted.{IsNonDecreasingBy-from_sort}
use Rattle.escalation.specs.Climbing.{clears}
use Rattle.escalation.proofs.Cleared.{are_cleared}
use Rattle.escalation.proofs.leaving.gather_cleared.Goals as goal

pub returns : goal.returns
returns c =
    let es = c.args.entries.now in
    let ids = c.sort_unstable.new.self.items in
    are_cleared es c.loop-entry.ids.items ids (λ k. c.loop-entry.invariant.ids k ∙ ap (list_any (clears k)) (take_all c.loop-entry.entry-index es c.loop-entry-test.false))
    c.sort_unstable.ensures.permutation (IsNonDecreasingBy-from_sort (λ n. n) ids c.sort_unstable.ensures.sorted)
