use Rattle.std.proofs.Common.{◌≡◌, ◌≤◌, ◌+◌, ◌*◌, take}
use Rattle.std.specs.Prelude.{sum_by}
use Rattle.drain_rounds.proofs.bound.tries.Given as goal

abbrev pub invariant-loop-command : goal.invariant-loop-command
invariant-loop-command l = (l.sum ≡ sum_by (λ k. k.allowed + 2) (take l.command-index l.cmds)) × (l.sum ≤ 257 * l.command-index)
