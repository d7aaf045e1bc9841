use Rattle.std.proofs.Common.{◌≡◌, ◌+◌, drop}
use Rattle.command_table.specs.Rows.{home}
use Rattle.command_table.proofs.making.home.Given as goal

abbrev pub invariant-loop-place : goal.invariant-loop-place
invariant-loop-place l = home l.dev l.luns ≡ l.place + home l.dev (drop l.place l.luns)
