-- Where an adapter stands, by its tables.
use Rattle.std.specs.Prelude.{List}
use Rattle.mid_base.specs.declared.host_spec.HostSpec.{HostSpec}
use Rattle.mid_base.specs.declared.entries.Entry.{Entry}
use Rattle.host_template.specs.Standing.{Before}
use Rattle.adapter_tables.specs.TablesOf.{plan_of, rows_of, units_of}
use Rattle.debug_adapter.specs.declared.adapter.DebugAdapter.{DebugAdapter}
use Rattle.debug_adapter.specs.Stands.{Stands}

-- the adapter stands where the journal leaves it; P has the newest entry first
abbrev pub AdapterStands : DebugAdapter → HostSpec → Before → List Entry → Type 0
AdapterStands x s b P = Stands (plan_of x.plan) x.held (rows_of x.rows) (units_of x.units) s b P
