use Rattle.std.proofs.Common.{length}
use Rattle.adapter_tables.proofs.units.+reset_units.Given as goal

abbrev pub decreases-reset_units : goal.decreases-reset_units
decreases-reset_units l = length l.units.now
