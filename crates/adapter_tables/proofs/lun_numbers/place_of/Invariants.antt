use Rattle.std.proofs.Common.{◌≡◌, ◌++◌, take, drop}
use Rattle.adapter_tables.specs.Units.{with_number}
use Rattle.adapter_tables.proofs.lun_numbers.place_of.Given as goal

abbrev pub invariant-loop-i : goal.invariant-loop-i
invariant-loop-i l = with_number l.n l.numbers ≡ take l.i l.numbers ++ with_number l.n (drop l.i l.numbers)
