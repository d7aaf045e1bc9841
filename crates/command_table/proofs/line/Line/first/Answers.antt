use Rattle.std.proofs.Common.{heap_items, arith, refl}
use Rattle.command_table.proofs.Heaped.{first_held, none_below}
use Rattle.command_table.proofs.line.Line.first.Goals as goal

pub returns-in-Some : goal.returns-in-Some
returns-in-Some c =
    let w = c.args.self.now in (
      first_held (λ x. x.0) (heap_items w.orders) c.in-Some.least.now (omega (arith, c.in-Some.ensures.variant.0 refl, w.orders.data.ok)) c.in-Some.ensures.lookup,
      none_below (λ x. x.0) (heap_items w.orders) c.in-Some.least.now (c.in-Some.ensures.greatest w.least_first),
    )
