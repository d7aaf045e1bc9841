-- When an adapter stands where a journal leaves it, and what its tables are after a call.
use Rattle.std.specs.Prelude.{◌≡◌, ◌↔◌, ℕ, List}
use Rattle.slab.specs.Slab.{Slab}
use Rattle.mid_base.specs.declared.names.Attempt.{Attempt}
use Rattle.mid_base.specs.declared.host_spec.HostSpec.{HostSpec}
use Rattle.mid_base.specs.declared.faults.PlanEntry.{PlanEntry}
use Rattle.mid_base.specs.declared.entries.Entry.{Entry}
use Rattle.host_template.specs.Standing.{Before}
use Rattle.host_template.specs.declared.says.TimerSay.{TimerSay}
use Rattle.host_template.specs.declared.says.TimerSay.TheVariants.{Done}
use Rattle.adapter_tables.specs.declared.held.Held.{Held}
use Rattle.adapter_tables.specs.declared.counts.CountRow.{CountRow}
use Rattle.adapter_tables.specs.declared.device_rows.UnitRow.{UnitRow}
use Rattle.adapter_tables.specs.Counted.{counted}
use Rattle.adapter_tables.specs.Held.{held, due_from}
use Rattle.adapter_tables.specs.Units.{unit}
use Rattle.adapter_tables.specs.Ties.{IsKept, HeldIs, RowsAre, UnitsAre, Within}
use Rattle.debug_adapter.specs.LowerRun.{LowerRun}

-- the adapter stands where the journal leaves it: its fields read what the words of the journal say, and the journal's
-- lower part is that of an adapter
abbrev pub Stands : List PlanEntry → Slab Held → List CountRow → List UnitRow → HostSpec → Before → List Entry → Type 0
Stands plan t rows units s b P =
    (plan ≡ s.plan) × Within s × HeldIs (held s b P) (IsKept t) × RowsAre (counted s b P) s.luns rows
    × UnitsAre s.luns (unit s b P) s.luns units × LowerRun s b P

-- the table of held attempts after a timeout
abbrev pub TimedTable : Attempt → ℕ → TimerSay → Slab Held → Slab Held → Type 0
TimedTable n now Done t new = (g : Held) → IsKept new g ↔ ((h : Held) × IsKept t h × (due_from n.0 now h ≡ g))
TimedTable n now say t new = new ≡ t
