use Rattle.std.proofs.Common.{length}
use Rattle.core_tests.proofs.limits.+differ_in_id.Given as goal

abbrev pub decreases-differ_in_id : goal.decreases-differ_in_id
decreases-differ_in_id l = length l.cmds.now
