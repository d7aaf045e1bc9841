use Rattle.std.proofs.Common.{◌≡◌, ◌++◌, take, drop}
use Rattle.disposition.specs.Ladder.{with_dev}
use Rattle.escalation.proofs.devices.add_device.Given as goal

abbrev pub invariant-loop-place : goal.invariant-loop-place
invariant-loop-place l = record {
  same : l.devices.items ≡ l.fn.devices.items;
  found : with_dev l.dev l.fn.devices.items ≡ take l.place l.fn.devices.items ++ with_dev l.dev (drop l.place l.fn.devices.items);
}
