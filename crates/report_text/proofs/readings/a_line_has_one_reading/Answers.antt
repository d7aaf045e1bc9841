use Rattle.std.proofs.Common.{arith}
use Rattle.report_text.proofs.OneReading.{line_same}
use Rattle.report_text.proofs.readings.a_line_has_one_reading.Goals as goal

pub returns : goal.returns
returns c h =
    line_same c.args.tick c.args.other_tick c.args.e.now c.args.other.now (omega arith) (omega arith) c.entry_fits.ensures c.entry_fits-2.ensures c.requires.aimed c.requires.other_aimed h
