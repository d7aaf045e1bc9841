use Rattle.std.proofs.Common.{arith}
use Rattle.std.proofs.lemmas.Bool.Decides.{nat_tests}
use Rattle.sense_data.proofs.Walk.{cut_step}
use Rattle.sense_data.proofs.descriptors.first_cut.Goals as goal

pub loop-place-preserved : goal.loop-place-preserved
loop-place-preserved c =
    let e = cut_step c.args.b.now c.args.end c.loop-place.place (omega arith) in
    grind (arith, nat_tests, c.loop-place.invariant)
