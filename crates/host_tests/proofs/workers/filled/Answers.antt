use Rattle.std.proofs.Common.{rules}
use Rattle.host_tests.proofs.Turns.{goes_nowhere, turned_on}
use Rattle.host_tests.proofs.workers.filled.Goals as goal

pub loop-init : goal.loop-init
loop-init g c = (c.requires.0, goes_nowhere _ c.requires.1)

pub made_note-requires : goal.made_note-requires
made_note-requires g c = (c.loop.invariant.0, c.loop.invariant.1.away)

pub returns-in_err-made_note : goal.returns-in_err-made_note
returns-in_err-made_note g c = (search rules, turned_on _ _ _ c.loop.invariant.1 c.made_note.ensures.turn)

pub loop-preserved : goal.loop-preserved
loop-preserved g c = (search rules, turned_on _ _ _ c.loop.invariant.1 c.made_note.ensures.turn)
