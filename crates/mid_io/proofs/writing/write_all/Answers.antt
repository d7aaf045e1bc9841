use Rattle.std.proofs.Common.{arith, take, drop}
use Rattle.std.proofs.Math.Seq.{take-add}
use Rattle.std.proofs.lemmas.List.{take_rest, take-append-drop}
use Rattle.std.proofs.lemmas.Grind.{common_steps}
use Rattle.mid_io.proofs.Grown.{appends_more, rose_on, keeps_on}
use Rattle.mid_io.proofs.writing.write_all.Goals as goal

pub loop-at-preserved : goal.loop-at-preserved
loop-at-preserved g c =
    record {
      within = grind (arith, common_steps);
      out = rw (take-add c.loop-at.at c.in-Ok.count c.args.bytes.now) (appends_more _ _ _ _ _ c.loop-at.invariant.out (rw (take_rest c.args.bytes.now c.loop-at.at) at c.in-Ok.ensures.bytes));
      later = grind (arith, common_steps);
    }

pub returns-in-Err-clause-answer : goal.returns-in-Err-clause-answer
returns-in-Err-clause-answer g c = (
  rose_on _ _ _ c.loop-at.invariant.later c.in-Err.ensures.cause.failed,
  (take c.loop-at.at c.args.bytes.now, drop c.loop-at.at c.args.bytes.now, take-append-drop c.loop-at.at c.args.bytes.now, keeps_on _ _ _ _ c.loop-at.invariant.out c.in-Err.ensures.bytes),
)
