-- What contracts see of the tables that are looked up by address.
use Rattle.std.specs.Prelude.{List}
use Rattle.adapter_tables.specs.declared.counts.CountRow.{CountRow}
use Rattle.adapter_tables.specs.declared.device_rows.UnitRow.{UnitRow}
use Rattle.mid_base.specs.declared.faults.PlanEntry.{PlanEntry}
use Rattle.fault_plan.specs.Lines.{lines_in}
use Rattle.adapter_tables.specs.declared.device_tables.PlanTable.{PlanTable}
use Rattle.adapter_tables.specs.declared.device_tables.CountTable.{CountTable}
use Rattle.adapter_tables.specs.declared.device_tables.UnitTable.{UnitTable}

-- the rows of all devices, in the order of the spec
abbrev pub rows_of : CountTable → List CountRow
rows_of t = t.rows.items

-- the units, in that order
abbrev pub units_of : UnitTable → List UnitRow
units_of t = t.units.items

-- the lines of the plan, in their order
abbrev pub plan_of : PlanTable → List PlanEntry
plan_of t = lines_in t.plan
