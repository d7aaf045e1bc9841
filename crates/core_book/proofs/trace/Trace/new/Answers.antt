use Rattle.core_book.proofs.Traces.{from_first}
use Rattle.core_book.proofs.trace.Trace.new.Goals as goal

pub returns : goal.returns
returns c = from_first c.args.cmd.0 c.args.entries.now c.args.first c.requires.first
