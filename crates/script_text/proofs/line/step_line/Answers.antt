use Rattle.std.proofs.Common.{arith}
use Rattle.std.proofs.lemmas.Grind.{common_steps}
use Rattle.script_text.specs.Gives.{seen}
use Rattle.script_text.proofs.line.step_line.Goals as goal

pub returns-in_err-step : goal.returns-in_err-step
returns-in_err-step c = grind (arith, common_steps, c.step_in.ensures (seen c.args.draft.now))

pub returns : goal.returns
returns c = grind (arith, common_steps, c.step_in.ensures (seen c.args.draft.now))
