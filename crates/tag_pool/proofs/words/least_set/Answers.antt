use Rattle.std.proofs.Common.{arith, ◌≡◌, ◌∙◌, sym, get_or}
use Rattle.std.proofs.lemmas.List.{get_or_default}
use Rattle.tag_pool.proofs.Bits.{first_set}
use Rattle.tag_pool.proofs.words.least_set.Goals as goal

pub returns-then-word-ne0 : goal.returns-then-word-ne0
returns-then-word-ne0 c =
    first_set c.args.words.now c.loop-i.i (get_or c.args.words.now c.loop-i.i 0) c.loop-i-test.true
    (get_or_default c.args.words.now c.loop-i.i 0 (get_or c.args.words.now c.loop-i.i 0) c.loop-i-test.true)
    (omega arith) (omega (arith, c.type_inv.words c.loop-i.i)) c.loop-i.invariant
