-- The tables of a new adapter.
use Rattle.std.proofs.Common.{◌≡◌, ℕ, ◌==◌, ◌&&◌, min, nat_le, Bool, true, false, not, if◌then◌else◌, List, [], ◌∷◌, ◌++◌, map, take, length, get_or, ◌+◌, Some, refl, sym, ap, ◌∙◌, subst, inl, inr, arith}
use Rattle.std.specs.Prelude.{find, ◌<◌}
use Rattle.std.specs.List.{list_all}
use Rattle.std.proofs.lemmas.Bool.Decides.{leb_tells}
use Rattle.mid_base.specs.declared.names.DevAddr.{DevAddr}
use Rattle.mid_base.specs.declared.faults.PlanEntry.{PlanEntry}
use Rattle.mid_base.specs.declared.host_spec.CmdSpec.{CmdSpec}
use Rattle.mid_base.specs.declared.host_spec.HostSpec.{HostSpec}
use Rattle.mid_base.specs.declared.host_spec.LunSpec.{LunSpec}
use Rattle.mid_base.specs.Address.{has_dev}
use Rattle.mid_base.specs.Limits.{KeepsLimits, is_between, is_command, has_block, is_planned, is_fault, differ_in_address}
use Rattle.fault_plan.specs.declared.class.Class.{Class}
use Rattle.fault_plan.specs.declared.class.Class.TheVariants.{Queue, Probe as Probing}
use Rattle.std.proofs.lemmas.List.{take_more}
use Rattle.debug_lun.specs.Units.{unit_for, unit_of}
use Rattle.adapter_tables.specs.declared.device_rows.UnitRow.{UnitRow}
use Rattle.adapter_tables.specs.Counted.{counted_before}
use Rattle.adapter_tables.specs.Units.{first_unit, target_luns}
use Rattle.adapter_tables.specs.Ties.{cap, count_in, no_counts, new_row, RowsAre, UnitIs, UnitsAre, NewUnits, Differ, PlanSmall, Within}
use Rattle.adapter_tables.proofs.RowLaws.{itself, differ}
use Rattle.adapter_tables.proofs.UnitLaws.{units_other}

-- one unit more
pub new_unit : (luns ls : List LunSpec) (xs : List UnitRow) (l : LunSpec) (x : UnitRow) → NewUnits luns ls xs → UnitIs luns (λ d. unit_for l) l x → NewUnits luns (ls ++ l ∷ []) (xs ++ x ∷ [])
new_unit luns [] [] l x new is = (is, tt)
new_unit luns [] (y ∷ ys) l x new is = absurd new
new_unit luns (k ∷ ls) [] l x new is = absurd new
new_unit luns (k ∷ ls) (y ∷ ys) l x new is = (new.0, new_unit luns ls ys l x new.1 is)

pub next_unit : (luns : List LunSpec) (i : ℕ) (d : LunSpec) (xs ys : List UnitRow) (x : UnitRow) → i < length luns → NewUnits luns (take i luns) xs → ys ≡ xs ++ x ∷ []
    → x.dev ≡ (get_or luns i d).dev → x.luns.items ≡ target_luns luns (get_or luns i d).dev → unit_of x.lun ≡ unit_for (get_or luns i d) → NewUnits luns (take (i + 1) luns) ys
next_unit luns i d xs ys x lt new e p q r =
    subst (λ (ls : List LunSpec). NewUnits luns ls ys) (sym (take_more luns i d lt))
    (subst (λ (zs : List UnitRow). NewUnits luns (take i luns ++ get_or luns i d ∷ []) zs) (sym e) (new_unit luns (take i luns) xs (get_or luns i d) x new (p, q, r)))

no_calls : (d : DevAddr) (x : Class) → count_in no_counts x ≡ min (counted_before [] d x) cap
no_calls d Queue = refl
no_calls d Probing = refl
no_calls d x = refl

pub new_rows_are : (ls : List LunSpec) → RowsAre (counted_before []) ls (map new_row ls)
new_rows_are [] = tt
new_rows_are (l ∷ ls) = ((refl, (λ x. no_calls l.dev x)), new_rows_are ls)

pub new_units_are : (luns ls : List LunSpec) (xs : List UnitRow) → Differ ls → NewUnits luns ls xs → UnitsAre luns (first_unit ls) ls xs
new_units_are luns [] [] dif new = tt
new_units_are luns [] (x ∷ xs) dif new = absurd new
new_units_are luns (l ∷ ls) [] dif new = absurd new
new_units_are luns (l ∷ ls) (x ∷ xs) dif new = (
  (new.0.0, new.0.1, new.0.2 ∙ sym (rw (itself l.dev) refl)),
  units_other luns (first_unit ls) (first_unit (l ∷ ls)) l.dev (λ e ne. rw (differ l.dev e (λ q. ne (sym q))) refl) ls xs dif.0 (new_units_are luns ls xs dif.1 new.1),
)

-- ---- a spec that keeps the limits

and_true : (a b : Bool) → a && b ≡ true → (a ≡ true) × (b ≡ true)
and_true true b e = (refl, e)
and_true false b e = absurd (cc e)

not_true : (a : Bool) → not a ≡ true → a ≡ false
not_true true e = absurd (cc e)
not_true false e = refl

at_most : (n : ℕ) → is_between 1 65535 n ≡ true → n < 65536
at_most n e = elim (leb_tells n 65535) [ inl le ↦ omega (arith, le.1) | inr gt ↦ absurd (cc (sym gt.0 ∙ (and_true (nat_le 1 n) (nat_le n 65535) e).1)) ]

plan_small : (luns : List LunSpec) (plan : List PlanEntry) → list_all (is_planned luns) plan ≡ true → PlanSmall plan
plan_small luns [] e = tt
plan_small luns (p ∷ ps) e =
    let parts = and_true (is_planned luns p) (list_all (is_planned luns) ps) e in
    let uses = and_true (has_dev luns p.dev && is_fault p.fault && is_between 1 65535 p.first && is_between 1 65535 p.every) (is_between 1 65535 p.uses) parts.0 in
    let every = and_true (has_dev luns p.dev && is_fault p.fault && is_between 1 65535 p.first) (is_between 1 65535 p.every) uses.0 in
    let first = and_true (has_dev luns p.dev && is_fault p.fault) (is_between 1 65535 p.first) every.0 in
    (at_most p.first first.1, at_most p.every every.1, at_most p.uses uses.1, plan_small luns ps parts.1)

addresses_differ : (luns : List LunSpec) → differ_in_address luns ≡ true → Differ luns
addresses_differ [] e = tt
addresses_differ (l ∷ ls) e =
    let parts = and_true (not (has_dev ls l.dev)) (differ_in_address ls) e in
    (not_true (has_dev ls l.dev) parts.0, addresses_differ ls parts.1)

device_known : (luns : List LunSpec) (k : CmdSpec) → is_command luns k ≡ true → has_dev luns k.dev ≡ true
device_known luns k e =
    let z = and_true (has_dev luns k.dev && is_between 1 4294967295 k.id.0 && nat_le k.lane.0 63 && is_between 1 10000 k.timeout && nat_le k.allowed 20) (has_block k) e in
    let a = and_true (has_dev luns k.dev && is_between 1 4294967295 k.id.0 && nat_le k.lane.0 63 && is_between 1 10000 k.timeout) (nat_le k.allowed 20) z.0 in
    let b = and_true (has_dev luns k.dev && is_between 1 4294967295 k.id.0 && nat_le k.lane.0 63) (is_between 1 10000 k.timeout) a.0 in
    let c = and_true (has_dev luns k.dev && is_between 1 4294967295 k.id.0) (nat_le k.lane.0 63) b.0 in
    (and_true (has_dev luns k.dev) (is_between 1 4294967295 k.id.0) c.0).0

found_known : (luns : List LunSpec) (cmds : List CmdSpec) (c : ℕ) (k : CmdSpec) → list_all (is_command luns) cmds ≡ true → find (λ j. j.id.0 == c) cmds ≡ Some k → has_dev luns k.dev ≡ true
found_known luns [] c k e f = absurd (cc f)
found_known luns (j ∷ js) c k e f =
    let parts = and_true (is_command luns j) (list_all (is_command luns) js) e in
    by (j.id.0 == c) f (device_known luns j parts.0) (λ g. found_known luns js c k parts.1 g)
  where
    by : (t : Bool) → (if t then Some j else find (λ j. j.id.0 == c) js) ≡ Some k → has_dev luns j.dev ≡ true → (find (λ j. j.id.0 == c) js ≡ Some k → has_dev luns k.dev ≡ true) → has_dev luns k.dev ≡ true
    by true q here rest = let same : j ≡ k = cc q in ap (λ (y : CmdSpec). has_dev luns y.dev) (sym same) ∙ here
    by false q here rest = rest q

pub limits_within : (s : HostSpec) → KeepsLimits s → Within s
limits_within s keeps = record {
  plan = plan_small s.luns s.plan keeps.plan;
  differ = addresses_differ s.luns keeps.addresses;
  known = λ c k found. found_known s.luns s.cmds c k keeps.commands found;
}
