use Rattle.std.proofs.Common.{◌++◌, take, length, ℕ, arith, length-append, length-take}
use Rattle.std.proofs.KnownBytes.{Consumes-trans}
use Rattle.mid_io.proofs.reading.read_all.Goals as goal

pub returns-then-is_err-clause-taken : goal.returns-then-is_err-clause-taken
returns-then-is_err-clause-taken g c = (
  c.pieces.bytes.items ++ take c.in-Ok.count c.read.new.buf,
  omega (arith, length-append {A = ℕ}, length-take {A = ℕ}, c.pieces.invariant.within, c.in-Ok.ensures.bound, c.min-room.ensures, c.as_slice-in-pieces.ensures.value),
  Consumes-trans _ _ _ _ _ c.pieces.invariant.taken c.in-Ok.ensures.bytes.0,
)
