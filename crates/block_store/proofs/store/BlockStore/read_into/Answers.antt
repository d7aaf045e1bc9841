use Rattle.std.proofs.Common.{arith, ◌≡◌, ◌*◌, ◌+◌, ◌-◌, ◌≤◌, length, add-one}
use Rattle.block_store.specs.Blocks.{block_in}
use Rattle.block_store.proofs.Steps.{read_more}
use Rattle.block_store.proofs.store.BlockStore.read_into.Goals as goal

pub loop-i-preserved : goal.loop-i-preserved
loop-i-preserved c =
    let i = c.loop-i.i in
    let fits : i * 512 + 512 ≤ length c.loop-i.out = omega arith in
    let one : (i + 1) * 512 ≡ i * 512 + 512 = omega arith in
    let part : i * 512 + 512 - i * 512 ≡ 512 = omega arith in
    rw (one, part, add-one) (read_more (block_in c.args.self.now.written) c.args.lba i (i * 512) c.loop-i.out c.read_block.new.out fits c.read_block.ensures.length c.loop-i.invariant c.read_block.ensures.bytes)
