use Rattle.std.proofs.Common.{arith}
use Rattle.std.proofs.lemmas.Nat.{and-not, and_le_l}
use Rattle.cdb_codec.proofs.decoding.only_named.Goals as goal

pub returns-then-named-byte-eq0-clause-within : goal.returns-then-named-byte-eq0-clause-within
returns-then-named-byte-eq0-clause-within c =
    omega (arith, and-not 8 c.args.named c.args.byte c.ranges.named.fits c.ranges.byte.fits, and_le_l c.args.named c.args.byte)
