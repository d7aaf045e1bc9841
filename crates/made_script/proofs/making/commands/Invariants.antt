use Rattle.std.proofs.Common.{◌≡◌}
use Rattle.made_script.specs.Made.{commands}
use Rattle.made_script.proofs.making.commands.Given as goal

abbrev pub invariant-loop-number : goal.invariant-loop-number
invariant-loop-number l = l.rows.items ≡ commands l.number
