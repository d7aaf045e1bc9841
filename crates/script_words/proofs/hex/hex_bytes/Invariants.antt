use Rattle.std.proofs.Common.{◌≡◌, length}
use Rattle.script_words.specs.Hex.{hex_bytes}
use Rattle.script_words.proofs.HexLoop.{joined}
use Rattle.script_words.proofs.hex.hex_bytes.Given as goal

abbrev pub invariant-loop-high : goal.invariant-loop-high
invariant-loop-high l = joined l.bytes.items (hex_bytes l.rest) ≡ hex_bytes l.word

abbrev pub decreases-loop-high : goal.decreases-loop-high
decreases-loop-high l = length l.rest
