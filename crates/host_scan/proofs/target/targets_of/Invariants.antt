use Rattle.std.proofs.Common.{◌≡◌, reverse}
use Rattle.host_scan.specs.Targets.{targets_of}
use Rattle.host_scan.proofs.target.targets_of.Given as goal

abbrev pub invariant-loop-dev : goal.invariant-loop-dev
invariant-loop-dev l = l.targets.items ≡ targets_of (reverse l.yielded)
