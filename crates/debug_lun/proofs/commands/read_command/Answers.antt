use Rattle.std.proofs.Common.{◌∙◌, ap, sym}
use Rattle.mid_base.specs.Bytes.{cdb_list}
use Rattle.cdb_codec.specs.Grammar.{refusal}
use Rattle.debug_lun.proofs.Spelled.{read_spelled}
use Rattle.debug_lun.proofs.commands.read_command.Goals as goal

pub returns-in-Ok-clause-read : goal.returns-in-Ok-clause-read
returns-in-Ok-clause-read c =
    let same = c.as_slice.ensures in
    let found = c.in-Ok.ensures.found in
    let whole = ap refusal (sym same) ∙ sym c.in-Ok.ensures.refused in
    sym (read_spelled c.in-Ok.command (cdb_list c.args.cdb.now) found.0 whole (found.1 ∙ same))
