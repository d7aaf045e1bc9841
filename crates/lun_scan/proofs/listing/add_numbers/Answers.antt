use Rattle.std.proofs.Common.{◌≤◌, arith}
use Rattle.std.specs.Prelude.{vec_capacity}
use Rattle.lun_scan.proofs.Listed.{told_more, few_more, eight_more}
use Rattle.lun_scan.proofs.listing.add_numbers.Goals as goal

pub loop-entry-preserved : goal.loop-entry-preserved
loop-entry-preserved c = record {
  can = tt;
  finite = tt;
  told = told_more c.loop-entry.numbers.items c.in-Some.entry c.loop-entry.entry-iterator c.next.new.self c.add_number.new.numbers.items _ c.in-Some.ensures.steps c.add_number.ensures.items c.loop-entry.invariant.told;
  few = few_more c.loop-entry.numbers.items c.in-Some.entry c.loop-entry.entry-iterator c.next.new.self c.add_number.new.numbers.items c.in-Some.ensures.steps c.add_number.ensures.items c.loop-entry.invariant.few;
  room = omega (arith, c.add_number.ensures.capacity, c.loop-entry.invariant.room);
  eight = eight_more c.in-Some.entry c.loop-entry.entry-iterator c.next.new.self c.in-Some.ensures.steps c.loop-entry.invariant.eight;
}
