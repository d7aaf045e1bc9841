use Rattle.std.proofs.Common.{◌≤◌, take}
use Rattle.std.specs.List.{flat_map}
use Rattle.std.specs.Io.KnownBytes.{Appends}
use Rattle.play_top.specs.Texts.{named_text}
use Rattle.play_top.proofs.writing.write_named.Given as goal

abbrev pub invariant-loop-host : goal.invariant-loop-host
invariant-loop-host g l = record {
  out : Appends (g.K.Sink.written l.fn.out) (g.K.Sink.written l.out) (flat_map (named_text l.number) (take l.host-index l.hosts));
  later : g.K.Sink.faults l.fn.out ≤ g.K.Sink.faults l.out;
}
