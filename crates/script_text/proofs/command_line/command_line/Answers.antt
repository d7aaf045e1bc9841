use Rattle.std.proofs.Common.{Some, arith}
use Rattle.std.proofs.lemmas.Grind.{common_steps}
use Rattle.script_text.specs.Gives.{seen}
use Rattle.script_text.proofs.command_line.command_line.Goals as goal

pub returns-in_err-fill : goal.returns-in_err-fill
returns-in_err-fill c = grind (arith, common_steps, c.fill_in.ensures (seen c.args.draft.now) (Some c.in_ok-host.host.now))

pub returns-in-Ok : goal.returns-in-Ok
returns-in-Ok c = grind (arith, common_steps, c.fill_in.ensures (seen c.args.draft.now) (Some c.in_ok-host.host.now))
