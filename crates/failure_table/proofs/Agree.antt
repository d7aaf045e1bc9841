-- What entries that say nothing of failures leave.
use Rattle.std.proofs.Common.{List, ◌∷◌}
use Rattle.mid_base.specs.declared.entries.Entry.{Entry}
use Rattle.mid_base.specs.declared.entries.Entry.TheVariants as entry
use Rattle.mid_base.specs.declared.host_spec.HostSpec.{HostSpec}
use Rattle.failure_table.specs.declared.failures.Failures.{Failures}
use Rattle.failure_table.specs.FailuresAgree.{FailuresAgree, IsApart}
use Rattle.failure_table.proofs.Entries.{says_apart}

pub agrees_apart : (s : HostSpec) (P : List Entry) (t : Failures) (e : Entry) → IsApart e → FailuresAgree s P t → FailuresAgree s (e ∷ P) t
agrees_apart s P t (entry.Ready n a) apart run = record { says = says_apart s P t.queue.failed t.queue.busy t.work.waiting run.says (entry.Ready n a) apart; recovery = run.recovery; started = run.started; failures_most = run.failures_most; aborts_most = run.aborts_most; few = run.few }
agrees_apart s P t (entry.Due n) apart run = record { says = says_apart s P t.queue.failed t.queue.busy t.work.waiting run.says (entry.Due n) apart; recovery = run.recovery; started = run.started; failures_most = run.failures_most; aborts_most = run.aborts_most; few = run.few }
agrees_apart s P t (entry.Longer n) apart run = record { says = says_apart s P t.queue.failed t.queue.busy t.work.waiting run.says (entry.Longer n) apart; recovery = run.recovery; started = run.started; failures_most = run.failures_most; aborts_most = run.aborts_most; few = run.few }
agrees_apart s P t (entry.DoneSaid n) apart run = record { says = says_apart s P t.queue.failed t.queue.busy t.work.waiting run.says (entry.DoneSaid n) apart; recovery = run.recovery; started = run.started; failures_most = run.failures_most; aborts_most = run.aborts_most; few = run.few }
agrees_apart s P t (entry.Owned n by) apart run = record { says = says_apart s P t.queue.failed t.queue.busy t.work.waiting run.says (entry.Owned n by) apart; recovery = run.recovery; started = run.started; failures_most = run.failures_most; aborts_most = run.aborts_most; few = run.few }
agrees_apart s P t (entry.Late n) apart run = record { says = says_apart s P t.queue.failed t.queue.busy t.work.waiting run.says (entry.Late n) apart; recovery = run.recovery; started = run.started; failures_most = run.failures_most; aborts_most = run.aborts_most; few = run.few }
agrees_apart s P t (entry.Judged c n d) apart run = record { says = says_apart s P t.queue.failed t.queue.busy t.work.waiting run.says (entry.Judged c n d) apart; recovery = run.recovery; started = run.started; failures_most = run.failures_most; aborts_most = run.aborts_most; few = run.few }
agrees_apart s P t (entry.Cleared c level) apart run = record { says = says_apart s P t.queue.failed t.queue.busy t.work.waiting run.says (entry.Cleared c level) apart; recovery = run.recovery; started = run.started; failures_most = run.failures_most; aborts_most = run.aborts_most; few = run.few }
agrees_apart s P t (entry.Sensed c n sense) apart run = record { says = says_apart s P t.queue.failed t.queue.busy t.work.waiting run.says (entry.Sensed c n sense) apart; recovery = run.recovery; started = run.started; failures_most = run.failures_most; aborts_most = run.aborts_most; few = run.few }
agrees_apart s P t (entry.Act level scope ok) apart run = record { says = says_apart s P t.queue.failed t.queue.busy t.work.waiting run.says (entry.Act level scope ok) apart; recovery = run.recovery; started = run.started; failures_most = run.failures_most; aborts_most = run.aborts_most; few = run.few }
agrees_apart s P t (entry.Probe d op say) apart run = record { says = says_apart s P t.queue.failed t.queue.busy t.work.waiting run.says (entry.Probe d op say) apart; recovery = run.recovery; started = run.started; failures_most = run.failures_most; aborts_most = run.aborts_most; few = run.few }
agrees_apart s P t (entry.Offline d) apart run = record { says = says_apart s P t.queue.failed t.queue.busy t.work.waiting run.says (entry.Offline d) apart; recovery = run.recovery; started = run.started; failures_most = run.failures_most; aborts_most = run.aborts_most; few = run.few }
agrees_apart s P t (entry.State d x) apart run = record { says = says_apart s P t.queue.failed t.queue.busy t.work.waiting run.says (entry.State d x) apart; recovery = run.recovery; started = run.started; failures_most = run.failures_most; aborts_most = run.aborts_most; few = run.few }
agrees_apart s P t entry.Tick apart run = record { says = says_apart s P t.queue.failed t.queue.busy t.work.waiting run.says (entry.Tick) apart; recovery = run.recovery; started = run.started; failures_most = run.failures_most; aborts_most = run.aborts_most; few = run.few }
agrees_apart s P t e apart run = absurd apart
