use Rattle.std.proofs.Common.{arith, ◌≡◌, ◌+◌, ◌-◌, List, ◌∷◌, ◌++◌, [], reverse, ap, subst}
use Rattle.std.specs.Prelude.{ℕ, Option, nat_eq}
use Rattle.std.specs.HashMap.{get}
use Rattle.std.proofs.lemmas.List.{reverse-append}
use Rattle.mid_base.specs.declared.entries.Entry.{Entry}
use Rattle.core_book.specs.Places.{AreLinked, HasRoom}
use Rattle.core_book.specs.Whose.{whose, all_whose}
use Rattle.core_book.proofs.Entries.{whose_push}
use Rattle.core_book.proofs.book.CoreBook.push.Goals as goal

pub invariant_of-self : goal.invariant_of-self
invariant_of-self c =
    let es : List Entry = c.self.inside.items.items in
    let room : c.self.inside.room ≡ c.args.self.now.spare = ap (λ b. b.spare) c.self.view_is in
    let less : c.self.inside.room ≡ (c.self.inside.room - 1) + 1 = omega (arith, room, c.requires) in
    let is : c.whose.result ≡ whose c.args.e (reverse es) = c.whose.ensures (reverse es) c.self.invariant.4 in
    let turned : reverse (es ++ c.args.e ∷ []) ≡ c.args.e ∷ reverse es = reverse-append es (c.args.e ∷ []) in (
      omega (arith, room, c.requires, c.push_reserved.ensures.len, c.push_reserved.ensures.capacity, c.self.invariant.0),
      c.push.ensures.room (c.self.inside.room - 1) (subst (λ (k : ℕ). HasRoom c.self.inside.links k) less c.self.invariant.1),
      omega (arith, room, c.requires, c.note.ensures.room, c.self.invariant.2),
      rw (c.push_reserved.ensures.items, whose_push es c.args.e)
          (subst (λ (o : Option ℕ). AreLinked (all_whose [] es ++ o ∷ []) c.push.new.self.next.items (get nat_eq c.push.new.self.ends)) is
          (c.push.ensures.links (all_whose [] es) c.self.invariant.3)),
      λ n. rw (c.push_reserved.ensures.items, turned) (c.note.ensures.sent (reverse es) c.self.invariant.4 n),
    )
