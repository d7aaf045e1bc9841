use Rattle.std.proofs.Common.{sym, ap, ◌∙◌, arith}
use Rattle.escalation.proofs.Cleared.{told_more, told_none}
use Rattle.escalation.proofs.leaving.take_sense.Goals as goal

pub loop-entry-init : goal.loop-entry-init
loop-entry-init c = sym (told_none c.args.left.now.items)

pub loop-entry-preserved : goal.loop-entry-preserved
loop-entry-preserved c = told_more c.args.entries.now c.loop-entry.entry-index c.entry-item.result c.args.left.now.items c.loop-entry.left.items c.take_told.new.left.items c.loop-entry-test.true c.entry-item.is c.loop-entry.invariant c.take_told.ensures
