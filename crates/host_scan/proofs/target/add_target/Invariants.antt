use Rattle.std.proofs.Common.{◌≡◌, ◌++◌, take, drop}
use Rattle.host_scan.specs.Targets.{with_target}
use Rattle.host_scan.proofs.target.add_target.Given as goal

abbrev pub invariant-loop-place : goal.invariant-loop-place
invariant-loop-place l = record {
  same : l.targets.items ≡ l.fn.targets.items;
  found : with_target l.target l.fn.targets.items ≡ take l.place l.fn.targets.items ++ with_target l.target (drop l.place l.fn.targets.items);
}
