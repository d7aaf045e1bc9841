use Rattle.std.proofs.Common.{refl}
use Rattle.mid_base.specs.declared.answers.By.TheVariants.{Expiry}
use Rattle.host_tests.proofs.Turns.{caused}
use Rattle.host_tests.proofs.callers.overdue.Goals as goal

pub returns-in-Ok-clause-cause : goal.returns-in-Ok-clause-cause
returns-in-Ok-clause-cause g c = caused _ _ c.args.t.0 c.args.n _ Expiry c.requires.sent refl c.in-Ok.ensures.added
