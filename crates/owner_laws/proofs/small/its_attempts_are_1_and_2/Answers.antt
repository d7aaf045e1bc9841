use Rattle.std.proofs.Common.{arith}
use Rattle.owner_laws.specs.Small.{attempt, small, small_spec}
use Rattle.owner_laws.proofs.small.its_attempts_are_1_and_2.Goals as goal

pub returns-clause-second : goal.returns-clause-second
returns-clause-second c = (c.attempts_are_numbered_in_turn.ensures.given small_spec small (attempt 2) c.it_is_legal.ensures.legal).1 (omega arith, omega arith)
