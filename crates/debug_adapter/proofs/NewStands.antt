-- A new adapter stands where the empty journal leaves it.
use Rattle.std.proofs.Common.{◌≡◌, List, [], map, Option, None, sym, ap, ◌∙◌, subst}
use Rattle.std.specs.Prelude.{slice_index_or}
use Rattle.slab.specs.Slab.{Slab}
use Rattle.mid_base.specs.declared.faults.PlanEntry.{PlanEntry}
use Rattle.mid_base.specs.declared.host_spec.HostSpec.{HostSpec}
use Rattle.mid_base.specs.Limits.{KeepsLimits}
use Rattle.adapter_tables.specs.declared.held.Held.{Held}
use Rattle.adapter_tables.specs.declared.counts.CountRow.{CountRow}
use Rattle.adapter_tables.specs.declared.device_rows.UnitRow.{UnitRow}
use Rattle.adapter_tables.specs.Counted.{counted_before}
use Rattle.adapter_tables.specs.Ties.{IsKept, NewUnits, RowsAre, new_row}
use Rattle.adapter_tables.proofs.NewLaws.{limits_within, new_rows_are, new_units_are}
use Rattle.debug_adapter.specs.Stands.{Stands}

none_kept : (t : Slab Held) (h : Held) → t.slots ≡ [] → IsKept t h → ⊥
none_kept t h e kept = cc (sym kept.1 ∙ ap (λ (xs : List (Option Held)). slice_index_or xs kept.0 None) e)

pub new_stands : (s : HostSpec) (plan : List PlanEntry) (t : Slab Held) (rows : List CountRow) (units : List UnitRow) → KeepsLimits s → plan ≡ s.plan → t.slots ≡ [] → rows ≡ map new_row s.luns → NewUnits s.luns s.luns units
    → Stands plan t rows units s [] []
new_stands s plan t rows units keeps p none r new =
    let within = limits_within s keeps in (
      p,
      within,
      (λ n h. ((λ e. absurd (cc e)), (λ i. absurd (none_kept t h none i.1)))),
      subst (λ (xs : List CountRow). RowsAre (counted_before []) s.luns xs) (sym r) (new_rows_are s.luns),
      new_units_are s.luns s.luns units within.differ new,
      tt,
    )
