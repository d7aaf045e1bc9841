use Rattle.step_laws.proofs.All.{each_legal}
use Rattle.step_laws.proofs.laws.each_step_is_rightly_barred.Goals as goal

pub returns : goal.returns
returns c = λ s journal step ids legal. each_legal s journal step ids legal
