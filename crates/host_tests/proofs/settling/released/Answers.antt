use Rattle.host_tests.proofs.settling.released.Goals as goal

pub returns : goal.returns
returns c = c.release.ensures c.args.n c.args.by c.requires.shown
