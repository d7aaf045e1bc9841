use Rattle.std.proofs.Common.{reverse}
use Rattle.journal_laws.proofs.InTime.{in_time}
use Rattle.journal_laws.proofs.laws.answers_in_time_win.Goals as goal

pub returns : goal.returns
returns c = λ s journal n t legal r lt. in_time s (reverse journal) n t legal.each r lt
