use Rattle.std.proofs.Common.{None, arith}
use Rattle.std.proofs.lemmas.Grind.{common_steps}
use Rattle.script_text.specs.Gives.{seen}
use Rattle.script_text.proofs.line.host_line.Goals as goal

pub returns-in_err-no_async_abort : goal.returns-in_err-no_async_abort
returns-in_err-no_async_abort c = grind (arith, common_steps, c.no_async_in.ensures (seen c.args.draft.now) None)

pub returns : goal.returns
returns c = grind (arith, common_steps, c.no_async_in.ensures (seen c.args.draft.now) None)
