-- The addresses of units, in their order, and the tables that have a row for each.
use Rattle.std.specs.Prelude.{◌≡◌, ℕ, ◌&&◌, not, Bool, true, List, [], ◌∷◌, map, Some, slice_get, slice_set}
use Rattle.std.specs.List.{list_any}
use Rattle.mid_base.specs.declared.names.DevAddr.{DevAddr}
use Rattle.mid_base.specs.declared.host_spec.LunSpec.{LunSpec}
use Rattle.mid_base.specs.Address.{same_dev}
use Rattle.fault_plan.specs.declared.class.Class.{Class}
use Rattle.adapter_tables.specs.declared.counts.CountRow.{CountRow}
use Rattle.adapter_tables.specs.declared.device_rows.UnitRow.{UnitRow}
use Rattle.adapter_tables.specs.Ties.{bump, count_in}

abbrev pub lun_devs : List LunSpec → List DevAddr
lun_devs luns = map (λ l. l.dev) luns

abbrev pub row_devs : List CountRow → List DevAddr
row_devs rows = map (λ r. r.dev) rows

abbrev pub unit_devs : List UnitRow → List DevAddr
unit_devs xs = map (λ x. x.dev) xs

abbrev pub has_address : List DevAddr → DevAddr → Bool
has_address ds d = list_any (λ e. same_dev e d) ds

-- no address stands there twice
abbrev pub are_apart : List DevAddr → Bool
are_apart [] = true
are_apart (d ∷ ds) = not (has_address ds d) && are_apart ds

-- one call more
abbrev pub bumped_row : Class → CountRow → CountRow
bumped_row class r = record r { counts = bump class r.counts }

-- the row at place i has counted a call of the class, and n is its count
abbrev pub CountedAt : List CountRow → List CountRow → ℕ → Class → ℕ → Type 0
CountedAt old new i class n =
    (r : CountRow) × (slice_get old i ≡ Some r) × (new ≡ slice_set old i (bumped_row class r)) × (n ≡ count_in (bump class r.counts) class)
