use Rattle.std.proofs.Common.{nat_eq}
use Rattle.std.specs.HashMap.{get}
use Rattle.core_book.proofs.Places.{linked_same}
use Rattle.core_book.proofs.links.Links.reserve.Goals as goal

pub returns-clause-links : goal.returns-clause-links
returns-clause-links c os linked =
    linked_same os c.args.self.now.next.items c.reserve.new.self.items (get nat_eq c.args.self.now.ends) (get nat_eq c.reserve-2.new.self) linked
    c.reserve.ensures.items c.reserve-2.ensures.entries.2
