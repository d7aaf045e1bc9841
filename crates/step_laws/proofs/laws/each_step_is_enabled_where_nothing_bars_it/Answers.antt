use Rattle.step_laws.proofs.All.{each_numbered}
use Rattle.step_laws.proofs.laws.each_step_is_enabled_where_nothing_bars_it.Goals as goal

pub returns : goal.returns
returns c = λ s journal step ids legal numbers due. each_numbered s journal step ids legal numbers due
