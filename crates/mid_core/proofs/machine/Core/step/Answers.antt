use Rattle.mid_core.proofs.Earlier.{no_earlier}
use Rattle.mid_core.proofs.machine.Core.step.Goals as goal

pub returns-clause-earlier : goal.returns-clause-earlier
returns-clause-earlier g c =
    no_earlier g.A.HostTemplate.stands g.A.HostTemplate.is_due g.A.HostTemplate.means c.args.self.now c.make-answer.new.self c.args.s c.make-answer.result c.journal.ensures.legal c.journal.ensures.right c.journal-2.ensures.right c.make-answer.ensures.answer
