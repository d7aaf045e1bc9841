use Rattle.std.proofs.Common.{◌≤◌}
use Rattle.std.specs.Io.KnownBytes.{Appends}
use Rattle.play_top.proofs.Texts.{turn_text}
use Rattle.play_top.proofs.writing.write_hosts.Given as goal

abbrev pub invariant-loop-number : goal.invariant-loop-number
invariant-loop-number g l = record {
  out : Appends (g.K.Sink.written l.fn.out) (g.K.Sink.written l.out) (turn_text l.number l.hosts);
  later : g.K.Sink.faults l.fn.out ≤ g.K.Sink.faults l.out;
}
