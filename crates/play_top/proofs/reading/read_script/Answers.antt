use Rattle.play_top.proofs.Whole.{reads}
use Rattle.play_top.proofs.reading.read_script.Goals as goal

pub returns-in-Ok-clause-answer : goal.returns-in-Ok-clause-answer
returns-in-Ok-clause-answer g c =
    reads _ _ _ _ c.in-Ok.bytes.items c.in-Ok.ensures.answer c.in-Ok.ensures.whole c.script_in.result (rw c.deref.ensures.value at c.script_in.ensures)
