use Rattle.std.proofs.Common.{rules, ◌∙◌, ap, sym, heap_items, ◌==◌, not, length, arith}
use Rattle.std.proofs.lemmas.Fn.{filter_same}
use Rattle.std.proofs.lemmas.List.Sorted.{length_permutation}
use Rattle.std.specs.List.{list_any}
use Rattle.std.proofs.lemmas.List.Sorted.{list_any-IsPermutation}
use Rattle.command_table.proofs.Heaped.{left_held, fewer_left}
use Rattle.command_table.proofs.line.Line.drop_all.Goals as goal

pub returns-clause-left : goal.returns-clause-left
returns-clause-left c j =
    let kept = c.retain.ensures.filtered.0 in
    let is = filter_same _ (λ x. not (x.0 == c.args.order)) _ (λ x b f' k. search rules) _ _ c.retain.ensures.filtered.1 in
    sym (list_any-IsPermutation (λ x. x.0 == j) kept (heap_items c.retain.new.self) c.retain.ensures.filtered.2)
    ∙ ap (λ xs. list_any (λ x. x.0 == j) xs) is
    ∙ left_held (λ x. x.0) c.args.order (heap_items c.args.self.now.orders) j

pub returns-clause-fewer : goal.returns-clause-fewer
returns-clause-fewer c has =
    let kept = c.retain.ensures.filtered.0 in
    let is = filter_same _ (λ x. not (x.0 == c.args.order)) _ (λ x b f' k. search rules) _ _ c.retain.ensures.filtered.1 in
    let same = length_permutation kept (heap_items c.retain.new.self) c.retain.ensures.filtered.2 in
    let less = fewer_left (λ x. x.0) c.args.order (heap_items c.args.self.now.orders) has in
    omega (arith, ap length is, same, less, c.retain.new.self.data.ok, c.args.self.now.orders.data.ok)
