use Rattle.std.proofs.Common.{subst}
use Rattle.host_words.specs.Seats.{IsLost}
use Rattle.host_tests.proofs.settling.late_claim.Goals as goal

pub unreachable-requires : goal.unreachable-requires
unreachable-requires c = subst IsLost c.in-Won.is (c.claim.ensures.owned c.requires.owner.0 c.requires.owner.1)
