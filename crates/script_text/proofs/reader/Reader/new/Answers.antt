use Rattle.script_text.specs.Gives.{seen}
use Rattle.script_text.specs.Told.{says}
use Rattle.script_text.proofs.Telling.{new_told}
use Rattle.script_text.proofs.reader.Reader.new.Goals as goal

pub returns-clause-says : goal.returns-clause-says
unfolding says
returns-clause-says c = λ text. new_told c.new-2.result.before c.new-2.result.count (seen c.new.result) c.new-2.result.part.items text c.new-2.ensures.before c.new-2.ensures.count c.new.ensures c.new-2.ensures.part
