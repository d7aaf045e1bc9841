use Rattle.std.proofs.Common.{rules, arith, ◌≡◌, ◌∙◌, ◌<◌, sym, length, nat_eq, Some, None, refl}
use Rattle.std.specs.HashMap.{get}
use Rattle.core_book.specs.Places.{nowhere}
use Rattle.core_book.proofs.Places.{linked_none, linked_first, linked_more, last_within}
use Rattle.core_book.proofs.links.Links.push.Goals as goal

pub returns-in_default-clause-links : goal.returns-in_default-clause-links
returns-in_default-clause-links c os linked =
    let none : c.args.whose ≡ None = search rules in
    rw (none, c.push_reserved.ensures.items) (linked_none os c.args.self.now.next.items (get nat_eq c.args.self.now.ends) linked)

pub index_mut-requires : goal.index_mut-requires
index_mut-requires c =
    let known : get nat_eq c.args.self.now.ends c.in-Some.c ≡ Some c.in-Some-copied.ends =
    sym c.get.ensures.value ∙ (sym c.copied.ensures ∙ c.in-Some-copied.is) in
    let within : c.in-Some-copied.ends.last < length c.args.self.now.next.items =
    last_within c.requires.linked.0 c.args.self.now.next.items (get nat_eq c.args.self.now.ends) c.in-Some.c c.in-Some-copied.ends c.requires.linked.1 known in
    omega (arith, within, c.push_reserved.ensures.len, c.args.self.now.next.ok.0)

pub returns-in-Some-copied-clause-links : goal.returns-in-Some-copied-clause-links
returns-in-Some-copied-clause-links c os linked =
    let known : get nat_eq c.args.self.now.ends c.in-Some.c ≡ Some c.in-Some-copied.ends =
    sym c.get.ensures.value ∙ (sym c.copied.ensures ∙ c.in-Some-copied.is) in
    let owned : c.args.whose ≡ Some c.in-Some.c = c.in-Some.is in
    let count : length c.args.self.now.next.items ≡ length os = linked.count in
    let place : c.len-place.result ≡ length os = omega (arith, c.len-place.ensures, count, c.args.self.now.next.ok.0) in
    let fits : length os < nowhere = omega (arith, count, c.args.self.now.next.ok.0, c.args.self.now.next.ok.1, c.args.self.now.next.small) in
    rw (owned, c.push_reserved.ensures.items, place)
    (linked_more os c.args.self.now.next.items (get nat_eq c.args.self.now.ends) (get nat_eq c.put.new.map) c.in-Some.c c.in-Some-copied.ends
    record { first = c.in-Some-copied.ends.first; last = c.len-place.result } linked fits known refl place c.put.ensures.values)

pub returns-in-None-clause-links : goal.returns-in-None-clause-links
returns-in-None-clause-links c os linked =
    let known : get nat_eq c.args.self.now.ends c.in-Some.c ≡ None =
    sym c.get.ensures.value ∙ (sym c.copied.ensures ∙ c.in-None.is) in
    let owned : c.args.whose ≡ Some c.in-Some.c = c.in-Some.is in
    let count : length c.args.self.now.next.items ≡ length os = linked.count in
    let place : c.len-place.result ≡ length os = omega (arith, c.len-place.ensures, count, c.args.self.now.next.ok.0) in
    let fits : length os < nowhere = omega (arith, count, c.args.self.now.next.ok.0, c.args.self.now.next.ok.1, c.args.self.now.next.small) in
    rw (owned, c.push_reserved.ensures.items)
    (linked_first os c.args.self.now.next.items (get nat_eq c.args.self.now.ends) (get nat_eq c.put-in-None.new.map) c.in-Some.c
    record { first = c.len-place.result; last = c.len-place.result } linked fits known place place c.put-in-None.ensures.values)
