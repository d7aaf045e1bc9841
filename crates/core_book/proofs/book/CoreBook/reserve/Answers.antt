use Rattle.std.proofs.Common.{arith, []}
use Rattle.core_book.specs.Whose.{all_whose}
use Rattle.core_book.proofs.book.CoreBook.reserve.Goals as goal

pub invariant_of-self-in_err-reserve : goal.invariant_of-self-in_err-reserve
invariant_of-self-in_err-reserve c = (
  omega (arith, c.reserve.ensures.len, c.reserve.ensures.capacity, c.self.invariant.0),
  c.reserve-2.ensures.kept c.self.inside.room c.self.invariant.1,
  c.self.invariant.2,
  rw c.reserve.ensures.items (c.reserve-2.ensures.links (all_whose [] c.self.inside.items.items) c.self.invariant.3),
  λ n. rw c.reserve.ensures.items (c.self.invariant.4 n),
)
