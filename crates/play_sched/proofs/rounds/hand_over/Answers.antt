use Rattle.play_sched.proofs.Joined.{handed_ends}
use Rattle.play_sched.proofs.rounds.hand_over.Goals as goal

pub returns-then-rest-clause-made : goal.returns-then-rest-clause-made
returns-then-rest-clause-made c = handed_ends c.args.host.now (c.requires.0 c.if-rest.true)
