use Rattle.std.proofs.Common.{◌≤◌, take}
use Rattle.std.specs.List.{flat_map}
use Rattle.std.specs.Io.KnownBytes.{Appends}
use Rattle.report_text.specs.Tables.{gathered_line}
use Rattle.report_text.proofs.write.write_results.Given as goal

abbrev pub invariant-loop-c : goal.invariant-loop-c
invariant-loop-c g l = record {
  out : Appends (g.K.Sink.written l.fn.out) (g.K.Sink.written l.out) (flat_map (gathered_line l.entries l.results) (take l.c-index l.ids));
  later : g.K.Sink.faults l.fn.out ≤ g.K.Sink.faults l.out;
}
