use Rattle.std.proofs.Common.{Some, arith}
use Rattle.std.proofs.lemmas.Grind.{common_steps}
use Rattle.script_text.specs.Gives.{seen}
use Rattle.script_text.proofs.line.lun_line.Goals as goal

pub returns-in_err-flags : goal.returns-in_err-flags
returns-in_err-flags c = grind (arith, common_steps, c.unit_flags_in.ensures (seen c.args.draft.now) (Some c.in_ok-host.host.now))

pub returns : goal.returns
returns c = grind (arith, common_steps, c.unit_flags_in.ensures (seen c.args.draft.now) (Some c.in_ok-host.host.now))
