use Rattle.std.proofs.Common.{refl}
use Rattle.host_tests.proofs.Entering.{turn_left, tells}
use Rattle.host_tests.proofs.settling.owned.Goals as goal

pub returns-clause-tells : goal.returns-clause-tells
returns-clause-tells g c =
    let found = c.found-desk.ensures in
    let own = c.own-owner.ensures in
    tells _ _ _ _ _ _ _ _ (turn_left _ _ _ _ _ found.turn.0 _ found.turn.1 refl found.later own.may.later c.leave.ensures.view) found.looks own.owns
