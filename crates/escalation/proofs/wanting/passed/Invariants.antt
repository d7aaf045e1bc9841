use Rattle.std.proofs.Common.{◌≡◌, ◌≤◌, drop, map, length}
use Rattle.escalation.specs.Rungs.{pair_at}
use Rattle.escalation.proofs.Passing.{last_from}
use Rattle.escalation.proofs.wanting.passed.Given as goal

abbrev pub invariant-loop-place : goal.invariant-loop-place
invariant-loop-place l = record {
  ahead : last_from (pair_at l.rung) l.place l.behind (drop l.place (map pair_at l.ahead)) ≡ last_from (pair_at l.rung) 0 (length l.ahead) (map pair_at l.ahead);
  within : l.behind ≤ length l.ahead;
}
