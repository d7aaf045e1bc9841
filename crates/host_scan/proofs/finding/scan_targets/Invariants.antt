use Rattle.std.proofs.Common.{◌≡◌, [], map, take}
use Rattle.debug_adapter.specs.Adapter.{AdapterStands}
use Rattle.host_scan.specs.Findings.{finding_of}
use Rattle.host_scan.proofs.Order.{before_of}
use Rattle.host_scan.proofs.finding.scan_targets.Given as goal

abbrev pub invariant-loop-target : goal.invariant-loop-target
invariant-loop-target l = record {
  found : l.findings.items ≡ map (finding_of l.spec) (take l.target-index l.target-items);
  stands : AdapterStands l.lower l.spec (before_of l.spec (take l.target-index l.target-items)) [];
}
