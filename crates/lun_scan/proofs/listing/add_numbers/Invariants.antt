use Rattle.std.proofs.Common.{◌≡◌, ◌≤◌, ◌+◌, ◌++◌, length}
use Rattle.std.specs.Prelude.{All, vec_capacity}
use Rattle.lun_addr.specs.Parts.{entry_parts}
use Rattle.lun_scan.specs.Numbers.{numbers_in}
use Rattle.lun_scan.proofs.listing.add_numbers.Given as goal

abbrev pub invariant-loop-entry : goal.invariant-loop-entry
invariant-loop-entry l = record {
  can : (goal.iterator-loop-entry).can_next l.entry-iterator;
  finite : (goal.iterator-loop-entry).is_finite l.entry-iterator;
  told : l.numbers.items ++ numbers_in l.entry-iterator ≡ numbers_in (entry_parts l.luns);
  few : length l.numbers.items + length l.entry-iterator ≤ 256;
  room : 256 ≤ vec_capacity l.numbers;
  eight : All (λ e. length e.now ≡ 8) l.entry-iterator;
}
