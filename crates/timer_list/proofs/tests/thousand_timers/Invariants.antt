use Rattle.std.proofs.Common.{◌≡◌, ◌<◌, ℕ, length, None}
use Rattle.timer_list.specs.Timers.{deadline_of}
use Rattle.timer_list.proofs.tests.thousand_timers.Given as goal

abbrev pub invariant-loop-before : goal.invariant-loop-before
invariant-loop-before l =
    (length l.timers.timers ≡ l.before) × (l.timers.most ≡ 1000) × ((m : ℕ) → l.before < m → deadline_of m l.timers.timers ≡ None)
