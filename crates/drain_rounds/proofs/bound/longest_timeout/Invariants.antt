use Rattle.std.proofs.Common.{◌≡◌, map, take}
use Rattle.drain_rounds.specs.Rounds.{greatest}
use Rattle.drain_rounds.proofs.bound.longest_timeout.Given as goal

abbrev pub invariant-loop-command : goal.invariant-loop-command
invariant-loop-command l = l.longest ≡ greatest (map (λ k. k.timeout) (take l.command-index l.cmds))
