use Rattle.std.proofs.Common.{Some, arith}
use Rattle.std.proofs.lemmas.Grind.{common_steps}
use Rattle.script_text.specs.Gives.{seen}
use Rattle.script_text.proofs.line.plan_line.Goals as goal

pub returns-in_err-fault : goal.returns-in_err-fault
returns-in_err-fault c = grind (arith, common_steps, c.fault_in.ensures (seen c.args.draft.now) (Some c.in_ok-host.host.now))

pub returns : goal.returns
returns c = grind (arith, common_steps, c.fault_in.ensures (seen c.args.draft.now) (Some c.in_ok-host.host.now))
