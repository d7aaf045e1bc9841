use Rattle.std.proofs.Common.{◌≡◌, length, replicate}
use Rattle.mid_base.specs.declared.answers.TagState.TheVariants.{Free}
use Rattle.attempt_table.proofs.attempts.Attempts.new.Given as goal

abbrev pub invariant-loop-i : goal.invariant-loop-i
invariant-loop-i l = (l.tags.items ≡ replicate l.i Free) × (length l.kept.items ≡ l.i)
