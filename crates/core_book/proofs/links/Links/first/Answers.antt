use Rattle.std.proofs.Common.{◌∙◌, sym, ap, nat_eq}
use Rattle.std.specs.HashMap.{get}
use Rattle.std.specs.Option.{option_copied}
use Rattle.core_book.proofs.Places.{first_found, first_none}
use Rattle.core_book.proofs.links.Links.first.Goals as goal

pub returns-in-Some : goal.returns-in-Some
returns-in-Some c os linked =
    first_found os c.args.self.now.next.items (get nat_eq c.args.self.now.ends) c.args.c c.in-Some.ends.now linked
    (sym c.get.ensures.value ∙ ap option_copied c.in-Some.is)

pub returns-in-None : goal.returns-in-None
returns-in-None c os linked =
    first_none os c.args.self.now.next.items (get nat_eq c.args.self.now.ends) c.args.c linked
    (sym c.get.ensures.value ∙ ap option_copied c.in-None.is)
