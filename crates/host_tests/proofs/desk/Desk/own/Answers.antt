use Rattle.std.proofs.Common.{subst}
use Rattle.host_words.specs.Words.{Fits}
use Rattle.host_tests.proofs.Leaves.{owns, looked}
use Rattle.host_tests.proofs.desk.Desk.own.Goals as goal

pub returns-in-Ok-clause-may : goal.returns-in-Ok-clause-may
returns-in-Ok-clause-may c =
    rw (c.set_tag.ensures.rest.1, c.set_tag.ensures.set, c.in-Ok.ensures.rest.1, c.in-Some.ensures)
    (owns _ _ c.args.t.0 c.in-Some.n c.in-Some.by _ c.requires.tag (λ had e. subst (Fits had) c.in-Some.ensures (c.requires.fits had e)) c.in-Ok.ensures.ok)

pub returns-in-Err-clause-may : goal.returns-in-Err-clause-may
returns-in-Err-clause-may c = rw (c.in-Err.ensures.err, c.in-Err.ensures.rest.1) (looked _ _ _ _)
