use Rattle.std.proofs.Common.{rules, sum, drop, ℕ, List, ◌++◌, ◌∙◌, ap}
use Rattle.block_store.proofs.Visits.{all_ones}
use Rattle.block_store.proofs.tests.fill_with_ones.Goals as goal

pub returns : goal.returns
returns c = let w = c.for_each_part.ensures.1 in w.left ∙ ap (λ (l : List ℕ). l ++ drop (sum c.args.lens.now) c.args.buf.now) (all_ones _ _ _ _ _ _ w (λ f f' x x' k. search rules))
