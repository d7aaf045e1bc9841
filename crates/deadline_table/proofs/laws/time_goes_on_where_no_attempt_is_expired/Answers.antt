use Rattle.deadline_table.proofs.Entries.{says_tick}
use Rattle.deadline_table.proofs.Queries.{none_expired}
use Rattle.deadline_table.proofs.laws.time_goes_on_where_no_attempt_is_expired.Goals as goal

pub returns : goal.returns
returns c = λ s P t none run. says_tick s P t.timers.timers run (none_expired s P none)
