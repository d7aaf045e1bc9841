use Rattle.std.proofs.Common.{rules, ◌≡◌, [], refl}
use Rattle.core_book.proofs.book.CoreBook.new.Goals as goal

pub invariant_of-result : goal.invariant_of-result
invariant_of-result c =
    let none : c.in_ok-items.items.items ≡ [] = search rules in
    let unsent : c.in_ok-sent.sent.entries ≡ [] = search rules in
    (search rules, c.in_ok-links.ensures.room, search rules, rw none c.in_ok-links.ensures.links, λ n. rw (none, unsent) refl)
