use Rattle.step_laws.proofs.Acts.{acts}
use Rattle.step_laws.proofs.laws.eh_act_is_rightly_barred.Goals as goal

pub returns : goal.returns
returns c = λ s P legal. acts s P legal.each legal.ended
