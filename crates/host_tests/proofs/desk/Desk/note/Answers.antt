use Rattle.host_tests.proofs.Leaves.{notes, stays}
use Rattle.host_tests.proofs.desk.Desk.note.Goals as goal

pub returns-in-Ok-clause-may : goal.returns-in-Ok-clause-may
returns-in-Ok-clause-may c = rw (c.in-Ok.ensures.ok, c.in-Ok.ensures.rest.1, c.entry.ensures) (notes _ _ c.args.note)

pub returns-in-Err-clause-may : goal.returns-in-Err-clause-may
returns-in-Err-clause-may c = rw (c.in-Err.ensures.err, c.in-Err.ensures.rest.1) (stays _ _)
