use Rattle.std.proofs.Common.{◌≡◌}
use Rattle.script_text.proofs.read.specs_of.Given as goal

abbrev pub invariant-loop-draft : goal.invariant-loop-draft
invariant-loop-draft l = l.specs.items ≡ l.yielded
