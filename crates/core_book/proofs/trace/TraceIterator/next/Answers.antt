use Rattle.std.proofs.Common.{rules, arith, ◌≡◌, ◌<◌, [], get_or, length, refl, slice_get, Some, None}
use Rattle.std.proofs.lemmas.Option.{slice_get_read}
use Rattle.core_book.specs.Places.{nowhere}
use Rattle.core_book.specs.Whose.{all_whose}
use Rattle.core_book.proofs.Places.{is_here}
use Rattle.core_book.proofs.Traces.{from_next}
use Rattle.core_book.proofs.trace.TraceIterator.next.Goals as goal

pub returns-in-Some-clause-steps : goal.returns-in-Some-clause-steps
returns-in-Some-clause-steps c =
    let found = c.in-Some.ensures.lookup.3 in
    let at : slice_get c.self.inside.entries.now c.self.inside.place ≡ Some c.in-Some.entry.now =
    slice_get_read c.self.inside.entries.now (length c.self.inside.entries.now) c.self.inside.place c.in-Some.entry.now refl found.0 (found.1 c.in-Some.entry.now) in
    let short : c.self.inside.place < nowhere = omega (arith, found.0, c.self.told.0) in
    let is : get_or (all_whose [] c.self.inside.entries.now) c.self.inside.place None ≡ Some c.self.inside.cmd.0 =
    is_here (all_whose [] c.self.inside.entries.now) c.self.inside.cmd.0 c.self.inside.place c.self.invariant.there short in
    rw (← c.self.view_is)
    (from_next c.self.inside.cmd.0 c.self.inside.entries.now c.self.inside.place (get_or c.self.inside.next.now c.self.inside.place 0) c.in-Some.entry.now at is
    (c.self.invariant.next c.self.inside.place is))

pub returns-in-Some-clause-goes : goal.returns-in-Some-clause-goes
returns-in-Some-clause-goes c = rw (returns-in-Some-clause-steps c) (search rules)
