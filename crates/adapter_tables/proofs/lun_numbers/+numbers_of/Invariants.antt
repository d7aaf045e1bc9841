use Rattle.std.proofs.Common.{length}
use Rattle.adapter_tables.proofs.lun_numbers.+numbers_of.Given as goal

abbrev pub decreases-numbers_of : goal.decreases-numbers_of
decreases-numbers_of l = length l.luns.now
