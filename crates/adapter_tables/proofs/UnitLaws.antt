-- How an entry changes the units.
use Rattle.std.proofs.Common.{zero, suc, ◌≡◌, ◌≢◌, ℕ, ◌||◌, Bool, true, false, if◌then◌else◌, List, [], ◌∷◌, Some, slice_get, slice_set, refl, sym, ap, ◌∙◌, subst}
use Rattle.mid_base.specs.declared.names.DevAddr.{DevAddr}
use Rattle.mid_base.specs.declared.host_spec.LunSpec.{LunSpec}
use Rattle.mid_base.specs.declared.answers.Scope.{Scope}
use Rattle.mid_base.specs.Address.{same_dev, in_scope, has_dev}
use Rattle.std.specs.Prelude.{Result, Ok, Err, IfOk, OnOk}
use Rattle.mid_base.specs.declared.answers.Answer.{Answer}
use Rattle.mid_base.specs.declared.answers.NoMemory.{NoMemory}
use Rattle.debug_lun.specs.Units.{LogicalUnit, unit_of, after_reset, reply_of}
use Rattle.adapter_tables.specs.declared.device_rows.UnitRow.{UnitRow}
use Rattle.adapter_tables.specs.Units.{target_luns}
use Rattle.adapter_tables.specs.Ties.{UnitsAre, Differ, has_unit, Service, WasServed, WasKept, WereKept, WereReset}
use Rattle.adapter_tables.proofs.RowLaws.{itself, other_dev}

or_true : (a b : Bool) → b ≡ true → a || b ≡ true
or_true true b q = refl
or_true false b q = q

or_false : (a b : Bool) → a || b ≡ false → (a ≡ false) × (b ≡ false)
or_false true b e = absurd (cc e)
or_false false b e = (refl, e)

-- each unit of the code is one of the spec's
pub line_of : (luns : List LunSpec) (u : DevAddr → LogicalUnit) (ls : List LunSpec) (xs : List UnitRow) (i : ℕ) (x : UnitRow) → UnitsAre luns u ls xs → slice_get xs i ≡ Some x
    → (has_dev ls x.dev ≡ true) × (x.luns.items ≡ target_luns luns x.dev) × (unit_of x.lun ≡ u x.dev)
line_of luns u [] [] i x is e = absurd (cc e)
line_of luns u [] (q ∷ xs) i x is e = absurd is
line_of luns u (l ∷ ls) [] i x is e = absurd is
line_of luns u (l ∷ ls) (q ∷ xs) zero x is e =
    let same : q ≡ x = cc e in
    let d : x.dev ≡ l.dev = subst (λ (y : UnitRow). y.dev ≡ l.dev) same is.0.0 in (
      rw d (rw (itself l.dev) refl),
      subst (λ (y : UnitRow). y.luns.items ≡ target_luns luns y.dev) same (is.0.1 ∙ ap (target_luns luns) (sym is.0.0)),
      subst (λ (y : UnitRow). unit_of y.lun ≡ u y.dev) same (is.0.2 ∙ ap u (sym is.0.0)),
    )
line_of luns u (l ∷ ls) (q ∷ xs) (suc i) x is e =
    let h = line_of luns u ls xs i x is.1 e in (or_true (same_dev l.dev x.dev) (has_dev ls x.dev) h.0, h.1, h.2)

-- the units of other devices
pub units_other : (luns : List LunSpec) (u v : DevAddr → LogicalUnit) (d : DevAddr) → ((e : DevAddr) → e ≢ d → v e ≡ u e)
    → (ls : List LunSpec) (xs : List UnitRow) → has_dev ls d ≡ false → UnitsAre luns u ls xs → UnitsAre luns v ls xs
units_other luns u v d same [] [] off is = tt
units_other luns u v d same [] (x ∷ xs) off is = absurd is
units_other luns u v d same (l ∷ ls) [] off is = absurd is
units_other luns u v d same (l ∷ ls) (x ∷ xs) off is =
    let o = or_false (same_dev l.dev d) (has_dev ls d) off in
    ((is.0.0, is.0.1, is.0.2 ∙ sym (same l.dev (other_dev l.dev d o.0))), units_other luns u v d same ls xs o.1 is.1)

-- the unit of one device changes
pub units_set : (luns : List LunSpec) (u v : DevAddr → LogicalUnit) (d : DevAddr) → ((e : DevAddr) → e ≢ d → v e ≡ u e)
    → (ls : List LunSpec) (xs : List UnitRow) (i : ℕ) (x y : UnitRow) → Differ ls → slice_get xs i ≡ Some x → x.dev ≡ d
    → y.dev ≡ x.dev → y.luns.items ≡ x.luns.items → unit_of y.lun ≡ v d → UnitsAre luns u ls xs → UnitsAre luns v ls (slice_set xs i y)
units_set luns u v d same [] [] i x y dif e at yd yl yu is = tt
units_set luns u v d same [] (q ∷ xs) i x y dif e at yd yl yu is = absurd is
units_set luns u v d same (l ∷ ls) [] i x y dif e at yd yl yu is = absurd is
units_set luns u v d same (l ∷ ls) (q ∷ xs) zero x y dif e at yd yl yu is =
    let eq : q ≡ x = cc e in
    let here : l.dev ≡ d = sym is.0.0 ∙ (ap (λ (z : UnitRow). z.dev) eq ∙ at) in
    let xd : x.dev ≡ l.dev = subst (λ (z : UnitRow). z.dev ≡ l.dev) eq is.0.0 in
    let xl : x.luns.items ≡ target_luns luns l.dev = subst (λ (z : UnitRow). z.luns.items ≡ target_luns luns l.dev) eq is.0.1 in (
      (yd ∙ xd, yl ∙ xl, yu ∙ ap v (sym here)),
      units_other luns u v d same ls xs (subst (λ (z : DevAddr). has_dev ls z ≡ false) here dif.0) is.1,
    )
units_set luns u v d same (l ∷ ls) (q ∷ xs) (suc i) x y dif e at yd yl yu is =
    let has : has_dev ls d ≡ true = subst (λ (z : DevAddr). has_dev ls z ≡ true) at (line_of luns u ls xs i x is.1 e).0 in
    let off : l.dev ≢ d = λ s. cc (sym dif.0 ∙ (ap (λ (z : DevAddr). has_dev ls z) s ∙ has)) in
    ((is.0.0, is.0.1, is.0.2 ∙ sym (same l.dev off)), units_set luns u v d same ls xs i x y dif.1 e at yd yl yu is.1)

pub unit_missing : (luns : List LunSpec) (u : DevAddr → LogicalUnit) (d : DevAddr) (ls : List LunSpec) (xs : List UnitRow) → UnitsAre luns u ls xs → has_unit xs d ≡ has_dev ls d
unit_missing luns u d [] [] is = refl
unit_missing luns u d [] (x ∷ xs) is = absurd is
unit_missing luns u d (l ∷ ls) [] is = absurd is
unit_missing luns u d (l ∷ ls) (x ∷ xs) is = rw (is.0.0, unit_missing luns u d ls xs is.1) refl

-- the same state in other words
pub units_same : (luns : List LunSpec) (u v : DevAddr → LogicalUnit) → ((d : DevAddr) → v d ≡ u d) → (ls : List LunSpec) (xs : List UnitRow) → UnitsAre luns u ls xs → UnitsAre luns v ls xs
units_same luns u v told [] [] is = tt
units_same luns u v told [] (x ∷ xs) is = absurd is
units_same luns u v told (l ∷ ls) [] is = absurd is
units_same luns u v told (l ∷ ls) (x ∷ xs) is = ((is.0.0, is.0.1, is.0.2 ∙ sym (told l.dev)), units_same luns u v told ls xs is.1)

pub units_kept : (luns : List LunSpec) (u : DevAddr → LogicalUnit) (ls : List LunSpec) (xs ys : List UnitRow) → WereKept xs ys → UnitsAre luns u ls xs → UnitsAre luns u ls ys
units_kept luns u [] [] [] kept is = tt
units_kept luns u (l ∷ ls) (x ∷ xs) (y ∷ ys) kept is =
    ((kept.0.dev ∙ is.0.0, kept.0.luns ∙ is.0.1, kept.0.unit ∙ is.0.2), units_kept luns u ls xs ys kept.1 is.1)
units_kept luns u [] [] (y ∷ ys) kept is = absurd kept
units_kept luns u [] (x ∷ xs) ys kept is = absurd is
units_kept luns u (l ∷ ls) [] ys kept is = absurd is
units_kept luns u (l ∷ ls) (x ∷ xs) [] kept is = absurd kept

-- the units in the scope are reset
pub units_reset : (luns : List LunSpec) (u v : DevAddr → LogicalUnit) (scope : Scope) → ((d : DevAddr) → v d ≡ (if in_scope scope d then after_reset (u d) else u d))
    → (ls : List LunSpec) (xs ys : List UnitRow) → WereReset scope xs ys → UnitsAre luns u ls xs → UnitsAre luns v ls ys
units_reset luns u v scope told [] [] [] was is = tt
units_reset luns u v scope told (l ∷ ls) (x ∷ xs) (y ∷ ys) was is = (
  (
    was.0.0 ∙ is.0.0,
    was.0.1 ∙ is.0.1,
    was.0.2 ∙ (rw (is.0.0, is.0.2) refl ∙ sym (told l.dev)),
  ),
  units_reset luns u v scope told ls xs ys was.1 is.1,
)
units_reset luns u v scope told [] [] (y ∷ ys) was is = absurd was
units_reset luns u v scope told [] (x ∷ xs) ys was is = absurd is
units_reset luns u v scope told (l ∷ ls) [] ys was is = absurd is
units_reset luns u v scope told (l ∷ ls) (x ∷ xs) [] was is = absurd was

kept_itself : (x : UnitRow) → WasKept x x
kept_itself x = record { dev = refl; luns = refl; unit = refl }

kept_all : (xs : List UnitRow) → WereKept xs xs
kept_all [] = tt
kept_all (x ∷ xs) = (kept_itself x, kept_all xs)

pub kept_set : (xs : List UnitRow) (i : ℕ) (x y : UnitRow) → slice_get xs i ≡ Some x → WasKept x y → WereKept xs (slice_set xs i y)
kept_set [] i x y e kept = tt
kept_set (q ∷ xs) zero x y e kept = let eq : q ≡ x = cc e in (subst (λ (z : UnitRow). WasKept z y) (sym eq) kept, kept_all xs)
kept_set (q ∷ xs) (suc i) x y e kept = (kept_itself q, kept_set xs i x y e kept)

pub served_ok : (r : Result Answer NoMemory) (x y : UnitRow) (step : Service) → y.dev ≡ x.dev → y.luns.items ≡ x.luns.items
    → OnOk r (unit_of y.lun ≡ (step x.luns.items (unit_of x.lun)).0) → IfOk r (λ a. reply_of a ≡ (step x.luns.items (unit_of x.lun)).1)
    → IfOk r (λ a. WasServed x y step (reply_of a))
served_ok (Ok a) x y step d l u e = record { dev = d; luns = l; unit = u; answer = e }
served_ok (Err e) x y step d l u f = tt
