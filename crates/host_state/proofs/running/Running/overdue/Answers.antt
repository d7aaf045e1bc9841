use Rattle.std.proofs.Common.{◌≡◌, ℕ, true, false, Option, Some, None}
use Rattle.std.specs.Prelude.{is_some, MatchOption, ⊤}
use Rattle.std.specs.List.{list_any}
use Rattle.mid_base.specs.declared.names.Attempt.{Attempt}
use Rattle.trace_model.specs.Attempts.{attempts}
use Rattle.trace_model.specs.Time.{is_expired, may_ask}
use Rattle.deadline_table.specs.DeadlinesAgree.{IsDueAt}
use Rattle.deadline_table.proofs.Queries.{some_expired}
use Rattle.host_state.specs.declared.running.Running.{Running}
use Rattle.host_state.specs.HostAgrees.{IsAsked}
use Rattle.host_state.proofs.running.Running.overdue.Goals as goal

pub returns : goal.returns
returns c s P r =
    by_result c.due.result c.due.ensures.waits (c.due.ensures.asks s P r.timed.agrees r.time) (some_expired s P old.deadlines.timers.timers r.timed.agrees old.ticks r.time c.due.result c.due.ensures.first)
  where
    old : Running
    old = c.args.self.now

    by_result : (x : Option Attempt) → MatchOption x ⊤ (λ n. IsDueAt n.0 old.ticks old.deadlines.timers.timers)
        → MatchOption x ((m : ℕ) → is_expired s P m ≡ false) (λ n. (may_ask s P n.0 ≡ true) × ((m : ℕ) → may_ask s P m ≡ true → m ≡ n.0))
        → list_any (is_expired s P) (attempts P) ≡ is_some x
        → MatchOption x (list_any (is_expired s P) (attempts P) ≡ false) (λ n. (list_any (is_expired s P) (attempts P) ≡ true) × (may_ask s P n.0 ≡ true) × IsAsked old n)
    by_result None waits asks some = some
    by_result (Some n) waits asks some = (some, asks.0, record { spec = s; entries = P; runs = r; due = waits })
