use Rattle.std.proofs.Common.{◌≡◌, reverse}
use Rattle.disposition.specs.Ladder.{devs}
use Rattle.escalation.proofs.devices.devices_of.Given as goal

abbrev pub invariant-loop-x : goal.invariant-loop-x
invariant-loop-x l = l.devices.items ≡ devs (reverse l.yielded)
