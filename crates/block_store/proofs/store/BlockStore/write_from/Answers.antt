use Rattle.std.proofs.Common.{arith, ◌≡◌, ◌*◌, ◌∙◌, refl}
use Rattle.block_store.specs.Blocks.{block_in}
use Rattle.block_store.proofs.Steps.{write_more}
use Rattle.block_store.proofs.store.BlockStore.write_from.Goals as goal

pub loop-j-preserved : goal.loop-j-preserved
loop-j-preserved c =
    let i = c.loop-j.invariant in
    record {
      count = i.count;
      blocks = c.write_block.ensures.blocks ∙ i.blocks;
      room = λ q a b. c.write_block.ensures.kept q (i.room q a b);
      written = write_more c.args.lba c.loop-j.j c.args.from.now _ (block_in c.args.self.now.written) (block_in c.loop-j.self.written) (block_in c.write_block.new.self.written) (let e : c.loop-j.j * 512 ≡ 512 * c.loop-j.j = omega arith in rw e refl) c.write_block.ensures.written i.written;
    }
