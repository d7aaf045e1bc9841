use Rattle.std.proofs.Common.{◌≡◌, ◌<◌, ◌≤◌, ◌+◌, ◌-◌, ◌*◌, ℕ, length}
use Rattle.std.specs.Prelude.{slice_range, nat_lt, nat_le, ◌&&◌, if◌then◌else◌}
use Rattle.std.specs.Ordering.{nat_cmp}
use Rattle.std.specs.BTreeMap.{ContainsKey}
use Rattle.block_store.specs.Blocks.{block_in}
use Rattle.block_store.proofs.store.BlockStore.write_from.Given as goal

abbrev pub invariant-loop-i : goal.invariant-loop-i
invariant-loop-i l = record {
  count : l.count * 512 ≡ length l.from;
  blocks : l.self.blocks ≡ l.fn.self.blocks;
  same : (q : ℕ) → block_in l.self.written q ≡ block_in l.fn.self.written q;
  room : (q : ℕ) → l.lba ≤ q → q < l.lba + l.i → ContainsKey nat_cmp l.self.written q;
}

abbrev pub invariant-loop-j : goal.invariant-loop-j
invariant-loop-j l = record {
  count : l.count * 512 ≡ length l.from;
  blocks : l.self.blocks ≡ l.fn.self.blocks;
  room : (q : ℕ) → l.lba ≤ q → q < l.lba + l.count → ContainsKey nat_cmp l.self.written q;
  written : (q : ℕ) → block_in l.self.written q ≡ (if nat_le l.lba q && nat_lt q (l.lba + l.j) then slice_range l.from (512 * (q - l.lba)) (512 * (q - l.lba) + 512) else block_in l.fn.self.written q);
}
