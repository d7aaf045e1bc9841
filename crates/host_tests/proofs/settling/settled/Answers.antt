use Rattle.std.proofs.Common.{rules, ◌≡◌, refl, Ok, Some, None}
use Rattle.host_tests.proofs.Entering.{turn_left, released_left, owns_later, tells_some, tells_none}
use Rattle.host_tests.proofs.settling.settled.Goals as goal

pub returns-in-Ok-Some-clause-tells : goal.returns-in-Ok-Some-clause-tells
returns-in-Ok-Some-clause-tells g c =
    let found = c.found-desk.ensures in
    let owns = c.in-Ok-Some.ensures.owns in
    let freed = c.released.ensures.1 in
    let is : c.in-Ok-Some.field-0 ≡ Some (c.in-Ok-Some.n, c.in-Ok-Some.by) = search rules in
    tells_some _ _ _ _ _ _ c.found-desk.result.1 c.in-Ok-Some.field-0 c.in-Ok-Some.n c.in-Ok-Some.by is
    (released_left _ _ _ _ _ _ found.turn.0 freed.0 _ c.args.t.0 _ found.turn.1 freed.2 refl found.later (owns_later c.found-desk.result.0.entries.items c.settle.new.self.entries.items c.found-desk.result.1 (Ok c.in-Ok-Some.field-0) owns) c.leave.ensures.view) found.looks owns

pub returns-in-Ok-None-clause-tells : goal.returns-in-Ok-None-clause-tells
returns-in-Ok-None-clause-tells g c =
    let found = c.found-desk.ensures in
    let owns = c.in-Ok-None.ensures.owns in
    let is : c.in-Ok-None.field-0 ≡ None = search rules in
    tells_none _ _ _ _ _ _ c.found-desk.result.1 c.in-Ok-None.field-0 is
    (turn_left _ _ _ _ _ found.turn.0 _ found.turn.1 refl found.later (owns_later c.found-desk.result.0.entries.items c.settle.new.self.entries.items c.found-desk.result.1 (Ok c.in-Ok-None.field-0) owns) c.leave-in-Ok-None.ensures.view) found.looks owns
