use Rattle.std.proofs.Common.{◌<◌, refl, arith, heap_items, heap_len}
use Rattle.std.proofs.lemmas.Bool.{eq-eqb}
use Rattle.command_table.proofs.Heaped.{popped_first}
use Rattle.command_table.proofs.line.Line.pop_if.Goals as goal

pub returns-then-least-order-clause-others : goal.returns-then-least-order-clause-others
returns-then-least-order-clause-others c j isnt =
    let some : 0 < heap_len c.args.self.now.orders = c.in-Some.ensures.variant.0 refl in
    popped_first (λ x. x.0) (heap_items c.args.self.now.orders) (heap_items c.pop.new.self) c.in-Some.least.now c.pop.result c.args.order j
    (omega (arith, some, c.args.self.now.orders.data.ok)) c.in-Some.ensures.lookup (eq-eqb c.in-Some.least.now.0 c.args.order c.if-least-order.true) (c.pop.ensures.variant.1 some) c.pop.ensures.top c.pop.ensures.permutation isnt
