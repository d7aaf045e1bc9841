use Rattle.core_tests.proofs.Sending.{sends_one}
use Rattle.core_tests.proofs.callers.sent.Goals as goal

pub returns-clause-sends : goal.returns-clause-sends
returns-clause-sends g c =
    sends_one g.A.HostTemplate.stands g.A.HostTemplate.is_due g.A.HostTemplate.means c.args.core.now c.step.new.self c.step.result c.journal.ensures.legal c.step.ensures.answer
