use Rattle.std.proofs.Common.{◌≡◌, ◌≤◌, take, reverse}
use Rattle.std.specs.Io.KnownBytes.{Appends}
use Rattle.mid_base.specs.Past.{ticks}
use Rattle.report_text.specs.Text.{entry_lines}
use Rattle.report_text.proofs.write.write_entries.Given as goal

abbrev pub invariant-loop-e : goal.invariant-loop-e
invariant-loop-e g l = record {
  out : Appends (g.K.Sink.written l.fn.out) (g.K.Sink.written l.out) (entry_lines (reverse (take l.e-index l.entries)));
  later : g.K.Sink.faults l.fn.out ≤ g.K.Sink.faults l.out;
  tick : l.tick ≡ ticks (reverse (take l.e-index l.entries));
}
