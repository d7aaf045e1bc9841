-- The states in which devices start matter neither to the limits of a host nor to its adapter.
use Rattle.std.proofs.Common.{◌≡◌, ℕ, Bool, true, false, not, ◌&&◌, ◌||◌, ◌==◌, List, [], ◌∷◌, length, map, Option, Some, None, refl, sym, ap, ◌∙◌, subst, inl, inr, arith}
use Rattle.std.specs.Prelude.{if◌then◌else◌, min, nat_le}
use Rattle.std.specs.List.{list_all, list_any}
use Rattle.std.proofs.lemmas.Bool.{cases_Bool}
use Rattle.std.proofs.lemmas.List.{length-map}
use Rattle.mid_base.specs.declared.names.DevAddr.{DevAddr}
use Rattle.mid_base.specs.declared.faults.PlanEntry.{PlanEntry}
use Rattle.mid_base.specs.declared.states.DeviceState.{DeviceState}
use Rattle.mid_base.specs.declared.host_spec.CmdSpec.{CmdSpec}
use Rattle.mid_base.specs.declared.host_spec.LunSpec.{LunSpec}
use Rattle.mid_base.specs.declared.host_spec.HostSpec.{HostSpec}
use Rattle.mid_base.specs.Address.{same_dev, has_dev}
use Rattle.mid_base.specs.Limits.{KeepsLimits, differ_in_address, is_command, is_lun, is_planned}
use Rattle.host_template.specs.Standing.{Before}
use Rattle.fault_plan.specs.declared.class.Class.{Class}
use Rattle.debug_lun.specs.Units.{LogicalUnit, unit_for, unit_of}
use Rattle.adapter_tables.specs.declared.counts.CountRow.{CountRow}
use Rattle.adapter_tables.specs.declared.device_rows.UnitRow.{UnitRow}
use Rattle.adapter_tables.specs.Counted.{counted_before}
use Rattle.adapter_tables.specs.TablesOf.{rows_of, units_of}
use Rattle.adapter_tables.specs.Ties.{Differ, RowsAre, UnitsAre, Within, cap, count_in}
use Rattle.adapter_tables.specs.Units.{first_unit, target_luns, with_number}
use Rattle.debug_adapter.specs.Adapter.{AdapterStands}
use Rattle.debug_adapter.specs.declared.adapter.DebugAdapter.{DebugAdapter}
use Rattle.host_scan.specs.Found.{found, state_found, unit_found}
use Rattle.host_scan.specs.Targets.{target_of}

-- units that differ in where they start
abbrev OnlyStarts : (LunSpec → LunSpec) → Type 0
OnlyStarts f = (l : LunSpec) → (x : DeviceState) × (f l ≡ record l { start = x })

module _ (f : LunSpec → LunSpec) (only : OnlyStarts f) where
  same_address : (l : LunSpec) → (f l).dev ≡ l.dev
  same_address l = ap (λ (m : LunSpec). m.dev) (only l).1

  same_devs : (ls : List LunSpec) (d : DevAddr) → has_dev (map f ls) d ≡ has_dev ls d
  same_devs [] d = refl
  same_devs (l ∷ ls) d =
      ap (λ (e : DevAddr). same_dev e d || has_dev (map f ls) d) (same_address l) ∙ ap (λ (q : Bool). same_dev l.dev d || q) (same_devs ls d)

  same_numbers : (ls : List LunSpec) (d : DevAddr) → target_luns (map f ls) d ≡ target_luns ls d
  same_numbers [] d = refl
  same_numbers (l ∷ ls) d =
      ap (λ (e : DevAddr). if (e.channel == d.channel) && (e.target == d.target) then with_number e.lun (target_luns (map f ls) d) else target_luns (map f ls) d) (same_address l)
      ∙ ap (λ (ns : List ℕ). if (l.dev.channel == d.channel) && (l.dev.target == d.target) then with_number l.dev.lun ns else ns) (same_numbers ls d)

  same_unit : (ls : List LunSpec) (d : DevAddr) → first_unit (map f ls) d ≡ first_unit ls d
  same_unit [] d = refl
  same_unit (l ∷ ls) d =
      ap (λ (m : LunSpec). if same_dev m.dev d then unit_for m else first_unit (map f ls) d) (only l).1
      ∙ ap (λ (u : LogicalUnit). if same_dev l.dev d then unit_for l else u) (same_unit ls d)

  same_rows : (g : DevAddr → Class → ℕ) (ls : List LunSpec) (rs : List CountRow) → RowsAre g ls rs → RowsAre g (map f ls) rs
  same_rows g [] [] is = tt
  same_rows g [] (r ∷ rs) is = absurd is
  same_rows g (l ∷ ls) [] is = absurd is
  same_rows g (l ∷ ls) (r ∷ rs) is = (
    subst (λ (d : DevAddr). (r.dev ≡ d) × ((x : Class) → count_in r.counts x ≡ min (g d x) cap)) (sym (same_address l)) is.0,
    same_rows g ls rs is.1,
  )

  same_states : (luns ls : List LunSpec) (xs : List UnitRow) → UnitsAre luns (first_unit luns) ls xs → UnitsAre (map f luns) (first_unit (map f luns)) (map f ls) xs
  same_states luns [] [] is = tt
  same_states luns [] (x ∷ xs) is = absurd is
  same_states luns (l ∷ ls) [] is = absurd is
  same_states luns (l ∷ ls) (x ∷ xs) is =
      let here : (x.dev ≡ (f l).dev) × (x.luns.items ≡ target_luns luns (f l).dev) × (unit_of x.lun ≡ first_unit luns (f l).dev) =
      subst (λ (d : DevAddr). (x.dev ≡ d) × (x.luns.items ≡ target_luns luns d) × (unit_of x.lun ≡ first_unit luns d)) (sym (same_address l)) is.0 in (
        (here.0, here.1 ∙ sym (same_numbers luns (f l).dev), here.2 ∙ sym (same_unit luns (f l).dev)),
        same_states luns ls xs is.1,
      )

  still_differ : (ls : List LunSpec) → Differ ls → Differ (map f ls)
  still_differ [] d = tt
  still_differ (l ∷ ls) d = (same_devs ls (f l).dev ∙ (ap (has_dev ls) (same_address l) ∙ d.0), still_differ ls d.1)

  -- an adapter stands where it stood
  stays : (x : DebugAdapter) (s : HostSpec) (b : Before) → AdapterStands x s b [] → AdapterStands x (record s { luns = map f s.luns }) b []
  stays x s b old = (
    old.0,
    record {
      plan = old.1.plan;
      differ = still_differ s.luns old.1.differ;
      known = λ c k e. same_devs s.luns k.dev ∙ old.1.known c k e;
    },
    old.2,
    same_rows (λ d y. counted_before b d y) s.luns (rows_of x.rows) old.3,
    same_states s.luns s.luns (units_of x.units) old.4,
    tt,
  )

  -- and the limits are kept
  good_units : (ls : List LunSpec) → list_all is_lun (map f ls) ≡ list_all is_lun ls
  good_units [] = refl
  good_units (l ∷ ls) = ap (λ (q : Bool). q && list_all is_lun (map f ls)) (ap is_lun (only l).1) ∙ ap (λ (q : Bool). is_lun l && q) (good_units ls)

  good_addresses : (ls : List LunSpec) → differ_in_address (map f ls) ≡ differ_in_address ls
  good_addresses [] = refl
  good_addresses (l ∷ ls) =
      ap (λ (q : Bool). not q && differ_in_address (map f ls)) (same_devs ls (f l).dev ∙ ap (has_dev ls) (same_address l))
      ∙ ap (λ (q : Bool). not (has_dev ls l.dev) && q) (good_addresses ls)

  good_command : (luns : List LunSpec) (k : CmdSpec) → is_command (map f luns) k ≡ is_command luns k
  good_command luns k = rw (same_devs luns k.dev) refl

  good_commands : (luns : List LunSpec) (ks : List CmdSpec) → list_all (is_command (map f luns)) ks ≡ list_all (is_command luns) ks
  good_commands luns [] = refl
  good_commands luns (k ∷ ks) =
      ap (λ (q : Bool). q && list_all (is_command (map f luns)) ks) (good_command luns k) ∙ ap (λ (q : Bool). is_command luns k && q) (good_commands luns ks)

  good_entry : (luns : List LunSpec) (e : PlanEntry) → is_planned (map f luns) e ≡ is_planned luns e
  good_entry luns e = rw (same_devs luns e.dev) refl

  good_plan : (luns : List LunSpec) (es : List PlanEntry) → list_all (is_planned (map f luns)) es ≡ list_all (is_planned luns) es
  good_plan luns [] = refl
  good_plan luns (e ∷ es) =
      ap (λ (q : Bool). q && list_all (is_planned (map f luns)) es) (good_entry luns e) ∙ ap (λ (q : Bool). is_planned luns e && q) (good_plan luns es)

  keeps : (s : HostSpec) → KeepsLimits s → KeepsLimits (record s { luns = map f s.luns })
  keeps s k = record {
    number = k.number;
    tags = k.tags;
    lun_count = ap (λ (n : ℕ). nat_le n 256) (length-map s.luns f) ∙ k.lun_count;
    command_count = k.command_count;
    plan_count = k.plan_count;
    luns = good_units s.luns ∙ k.luns;
    addresses = good_addresses s.luns ∙ k.addresses;
    commands = good_commands s.luns s.cmds ∙ k.commands;
    ids = k.ids;
    plan = good_plan s.luns s.plan ∙ k.plan;
  }

-- ---- the devices that are found by scanning

only_found : (ds : List DevAddr) (s : HostSpec) → OnlyStarts (unit_found ds s)
only_found ds s l = elim (cases_Bool (list_any (λ d. same_dev d l.dev) ds)) [
  | inl is ↦ (state_found s (target_of l.dev), rw is refl)
  | inr isnt ↦ (l.start, rw isnt refl)
]

pub found_stands : (x : DebugAdapter) (ds : List DevAddr) (s : HostSpec) (b : Before) → AdapterStands x s b [] → AdapterStands x (found ds s) b []
found_stands x ds s b old = stays (unit_found ds s) (only_found ds s) x s b old

pub found_keeps : (ds : List DevAddr) (s : HostSpec) → KeepsLimits s → KeepsLimits (found ds s)
found_keeps ds s k = keeps (unit_found ds s) (only_found ds s) s k

pub found_devs : (ds : List DevAddr) (s : HostSpec) (d : DevAddr) → has_dev (found ds s).luns d ≡ has_dev s.luns d
found_devs ds s d = same_devs (unit_found ds s) (only_found ds s) s.luns d
