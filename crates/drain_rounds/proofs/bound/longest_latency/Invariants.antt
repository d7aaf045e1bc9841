use Rattle.std.proofs.Common.{◌≡◌, map, max, take}
use Rattle.drain_rounds.specs.Bound.{latency_of}
use Rattle.drain_rounds.specs.Rounds.{greatest}
use Rattle.drain_rounds.proofs.bound.longest_latency.Given as goal

abbrev pub invariant-loop-entry : goal.invariant-loop-entry
invariant-loop-entry l = l.longest ≡ max 1 (greatest (map (λ e. latency_of e.fault) (take l.entry-index l.plan)))
