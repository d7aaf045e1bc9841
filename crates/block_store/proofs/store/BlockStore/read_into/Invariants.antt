use Rattle.std.proofs.Common.{◌≡◌, ◌*◌, take}
use Rattle.block_store.specs.Blocks.{block_in, bytes_from}
use Rattle.block_store.proofs.store.BlockStore.read_into.Given as goal

abbrev pub invariant-loop-i : goal.invariant-loop-i
invariant-loop-i l = take (l.i * 512) l.out ≡ bytes_from (block_in l.self.written) l.lba l.i
