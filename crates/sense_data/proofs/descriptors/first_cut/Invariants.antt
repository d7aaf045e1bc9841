use Rattle.std.proofs.Common.{◌≡◌, ◌-◌}
use Rattle.sense_data.specs.Grammar.{first_cut}
use Rattle.sense_data.proofs.descriptors.first_cut.Given as goal

abbrev pub invariant-loop-place : goal.invariant-loop-place
invariant-loop-place l = first_cut l.b l.end l.place ≡ first_cut l.b l.end 8

abbrev pub decreases-loop-place : goal.decreases-loop-place
decreases-loop-place l = l.end - l.place
