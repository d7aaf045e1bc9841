use Rattle.std.proofs.Common.{◌≡◌, false, take}
use Rattle.adapter_tables.specs.Addresses.{has_address}
use Rattle.adapter_tables.proofs.addresses.scan.Given as goal

abbrev pub invariant-loop-i : goal.invariant-loop-i
invariant-loop-i l = has_address (take l.i l.devs) l.dev ≡ false
