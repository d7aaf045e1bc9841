use Rattle.attempt_table.specs.AttemptsAgree.{IsTied}
use Rattle.attempt_table.proofs.test_calls.make_each.Given as goal

abbrev pub invariant-loop-call : goal.invariant-loop-call
invariant-loop-call l = IsTied l.attempts
