use Rattle.std.proofs.Common.{◌≡◌, ◌≤◌, ◌<◌, ◌^◌, length}
use Rattle.timer_list.proofs.tests.alike.Given as goal

abbrev pub invariant-loop : goal.invariant-loop
invariant-loop l =
    (length l.timers.timers ≤ l.counter) × (l.timers.most ≡ 10000) × (length l.deadlines ≡ 1024) × (l.seed < 2 ^ 31) × (l.count ≤ l.counter)
