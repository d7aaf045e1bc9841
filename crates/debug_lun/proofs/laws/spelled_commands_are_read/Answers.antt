use Rattle.std.proofs.Common.{refl}
use Rattle.cdb_codec.specs.Grammar.{spelling}
use Rattle.debug_lun.proofs.Spelled.{read_spelled}
use Rattle.debug_lun.proofs.laws.spelled_commands_are_read.Goals as goal

pub returns : goal.returns
returns c k fits = read_spelled k (spelling k) fits (c.spelling_is_read.ensures k fits) refl
