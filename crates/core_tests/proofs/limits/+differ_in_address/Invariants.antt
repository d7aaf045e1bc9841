use Rattle.std.proofs.Common.{length}
use Rattle.core_tests.proofs.limits.+differ_in_address.Given as goal

abbrev pub decreases-differ_in_address : goal.decreases-differ_in_address
decreases-differ_in_address l = length l.luns.now
