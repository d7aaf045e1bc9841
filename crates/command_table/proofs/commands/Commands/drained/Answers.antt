use Rattle.std.proofs.Common.{◌∙◌, ◌==◌, length, ap, sym}
use Rattle.command_table.proofs.Queries.{drained_is}
use Rattle.command_table.proofs.commands.Commands.drained.Goals as goal

pub returns : goal.returns
returns c s P f = drained_is s P c.args.self.now f ∙ ap (λ rows. c.args.self.now.ended == length rows) (sym c.as_slice.ensures.value)
