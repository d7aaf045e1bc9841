use Rattle.std.proofs.Common.{ap}
use Rattle.slab.specs.Slab.{Slab}
use Rattle.adapter_tables.specs.declared.held.Held.{Held}
use Rattle.adapter_tables.specs.TablesOf.{plan_of, rows_of, units_of}
use Rattle.debug_adapter.proofs.HonestLaws.{stands_same}
use Rattle.debug_adapter.proofs.lower_layer.DebugAdapterHostTemplate.reserve.Goals as goal

pub returns-clause-stands : goal.returns-clause-stands
returns-clause-stands c = λ s b P old. stands_same (plan_of c.args.self.now.plan) c.args.self.now.held c.reserve.new.self (rows_of c.args.self.now.rows) (units_of c.args.self.now.units) s b P
    (ap (λ (t : Slab Held). t.slots) c.reserve.ensures.rest_kept) old
