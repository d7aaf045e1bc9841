use Rattle.std.proofs.Common.{◌<◌, arith, false}
use Rattle.std.proofs.lemmas.Fmt.{hex_byte as two_digits}
use Rattle.report_text.proofs.pieces.HexByteDisplay.fmt.Goals as goal

pub returns-clause-writes : goal.returns-clause-writes
returns-clause-writes g c =
    let small : c.args.self.now.0 < 256 = omega arith in
    rw (c.laid_out.ensures, c.in_radix.ensures, two_digits false c.args.self.now.0 small) at c.write.ensures.writes
