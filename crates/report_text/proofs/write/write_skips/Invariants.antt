use Rattle.std.proofs.Common.{◌≤◌, take}
use Rattle.std.specs.List.{flat_map}
use Rattle.std.specs.Io.KnownBytes.{Appends}
use Rattle.report_text.specs.Text.{skip_line}
use Rattle.report_text.proofs.write.write_skips.Given as goal

abbrev pub invariant-loop-skip : goal.invariant-loop-skip
invariant-loop-skip g l = record {
  out : Appends (g.K.Sink.written l.fn.out) (g.K.Sink.written l.out) (flat_map skip_line (take l.skip-index l.skips));
  later : g.K.Sink.faults l.fn.out ≤ g.K.Sink.faults l.out;
}
