use Rattle.debug_lun.proofs.Needed.{serve_looks}
use Rattle.debug_lun.proofs.laws.commands_look_at_what_they_need.Goals as goal

pub returns : goal.returns
returns c = serve_looks
