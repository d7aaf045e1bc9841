-- Tables that are looked up by address.
use Rattle.std.proofs.Common.{zero, suc, ◌≡◌, ℕ, ◌<◌, ◌||◌, Bool, true, false, not, ◌&&◌, if◌then◌else◌, List, [], ◌∷◌, map, length, take, Option, None, Some, slice_get, slice_set, refl, sym, ap, ◌∙◌, subst, arith}
use Rattle.std.specs.Prelude.{MatchOption}
use Rattle.mid_base.specs.declared.names.DevAddr.{DevAddr}
use Rattle.mid_base.specs.declared.host_spec.LunSpec.{LunSpec}
use Rattle.mid_base.specs.declared.answers.Scope.{Scope}
use Rattle.mid_base.specs.declared.answers.Scope.TheVariants.{Dev}
use Rattle.mid_base.specs.Address.{same_dev, in_scope, has_dev}
use Rattle.mid_base.specs.Limits.{differ_in_address}
use Rattle.fault_plan.specs.declared.class.Class.{Class}
use Rattle.adapter_tables.specs.declared.counts.CountRow.{CountRow}
use Rattle.adapter_tables.specs.declared.device_rows.UnitRow.{UnitRow}
use Rattle.adapter_tables.specs.Addresses.{lun_devs, row_devs, unit_devs, has_address, are_apart, bumped_row, CountedAt}
use Rattle.adapter_tables.specs.Ties.{bump, count_in, count_of, counted_row, has_unit, new_row, NewUnits, WereReset}
use Rattle.adapter_tables.proofs.RowLaws.{itself, differ, other_dev}

pub new_row_devs : (ls : List LunSpec) → row_devs (map new_row ls) ≡ lun_devs ls
new_row_devs [] = refl
new_row_devs (l ∷ ls) = ap (λ (ds : List DevAddr). l.dev ∷ ds) (new_row_devs ls)

pub new_unit_devs : (luns ls : List LunSpec) (xs : List UnitRow) → NewUnits luns ls xs → unit_devs xs ≡ lun_devs ls
new_unit_devs luns [] [] new = refl
new_unit_devs luns [] (x ∷ xs) new = absurd new
new_unit_devs luns (l ∷ ls) [] new = absurd new
new_unit_devs luns (l ∷ ls) (x ∷ xs) new = rw (new.0.0) (ap (λ (ds : List DevAddr). l.dev ∷ ds) (new_unit_devs luns ls xs new.1))

lun_address : (ls : List LunSpec) (d : DevAddr) → has_address (lun_devs ls) d ≡ has_dev ls d
lun_address [] d = refl
lun_address (l ∷ ls) d = ap (λ (t : Bool). same_dev l.dev d || t) (lun_address ls d)

and_true : (a b : Bool) → a && b ≡ true → (a ≡ true) × (b ≡ true)
and_true true b e = (refl, e)
and_true false b e = absurd (cc e)

not_true : (a : Bool) → not a ≡ true → a ≡ false
not_true true e = absurd (cc e)
not_true false e = refl

pub apart_luns : (ls : List LunSpec) → are_apart (lun_devs ls) ≡ differ_in_address ls
apart_luns [] = refl
apart_luns (l ∷ ls) = rw (lun_address ls l.dev, apart_luns ls) refl

-- the same as a fact
abbrev Apart : List DevAddr → Type 0
Apart [] = Unit {0}
Apart (d ∷ ds) = (has_address ds d ≡ false) × Apart ds

apart_of : (ds : List DevAddr) → are_apart ds ≡ true → Apart ds
apart_of [] e = tt
apart_of (d ∷ ds) e =
    let parts = and_true (not (has_address ds d)) (are_apart ds) e in
    (not_true (has_address ds d) parts.0, apart_of ds parts.1)

-- ---- the addresses stay

pub row_devs_set : (rows : List CountRow) (i : ℕ) (r : CountRow) (class : Class) → slice_get rows i ≡ Some r → row_devs (slice_set rows i (bumped_row class r)) ≡ row_devs rows
row_devs_set [] i r class e = refl
row_devs_set (q ∷ rows) zero r class e = let same : q ≡ r = cc e in ap (λ (y : CountRow). y.dev ∷ row_devs rows) (sym same)
row_devs_set (q ∷ rows) (suc i) r class e = ap (λ (ds : List DevAddr). q.dev ∷ ds) (row_devs_set rows i r class e)

pub unit_devs_set : (xs : List UnitRow) (i : ℕ) (x y : UnitRow) → slice_get xs i ≡ Some x → y.dev ≡ x.dev → unit_devs (slice_set xs i y) ≡ unit_devs xs
unit_devs_set [] i x y e d = refl
unit_devs_set (q ∷ xs) zero x y e d = let same : q ≡ x = cc e in ap (λ (z : DevAddr). z ∷ unit_devs xs) (d ∙ ap (λ (z : UnitRow). z.dev) (sym same))
unit_devs_set (q ∷ xs) (suc i) x y e d = ap (λ (ds : List DevAddr). q.dev ∷ ds) (unit_devs_set xs i x y e d)

row_dev_counted : (scope : Scope) (class : Class) (r : CountRow) → (counted_row scope class r).dev ≡ r.dev
row_dev_counted scope class r = by (in_scope scope r.dev)
  where
    by : (t : Bool) → (if t then record r { counts = bump class r.counts } else r).dev ≡ r.dev
    by true = refl
    by false = refl

pub row_devs_counted : (scope : Scope) (class : Class) (rows : List CountRow) → row_devs (map (counted_row scope class) rows) ≡ row_devs rows
row_devs_counted scope class [] = refl
row_devs_counted scope class (r ∷ rows) = rw (row_dev_counted scope class r) (ap (λ (ds : List DevAddr). r.dev ∷ ds) (row_devs_counted scope class rows))

pub unit_devs_reset : (scope : Scope) (xs ys : List UnitRow) → WereReset scope xs ys → unit_devs ys ≡ unit_devs xs
unit_devs_reset scope [] [] was = refl
unit_devs_reset scope (x ∷ xs) (y ∷ ys) was = rw (was.0.0) (ap (λ (ds : List DevAddr). x.dev ∷ ds) (unit_devs_reset scope xs ys was.1))
unit_devs_reset scope [] (y ∷ ys) was = absurd was
unit_devs_reset scope (x ∷ xs) [] was = absurd was

-- ---- counting at one place

or_true : (a b : Bool) → b ≡ true → a || b ≡ true
or_true true b q = refl
or_true false b q = q

or_false : (a b : Bool) → a || b ≡ false → (a ≡ false) × (b ≡ false)
or_false true b e = absurd (cc e)
or_false false b e = (refl, e)

-- an address that stands at a place is there
stands_there : (ds : List DevAddr) (i : ℕ) (d : DevAddr) → slice_get ds i ≡ Some d → has_address ds d ≡ true
stands_there [] i d e = absurd (cc e)
stands_there (q ∷ ds) zero d e = let same : q ≡ d = cc e in ap (λ (z : DevAddr). same_dev z d || has_address ds d) same ∙ rw (itself d) refl
stands_there (q ∷ ds) (suc i) d e = or_true (same_dev q d) (has_address ds d) (stands_there ds i d e)

turned : (a b : DevAddr) → same_dev a b ≡ false → same_dev b a ≡ false
turned a b off = differ b a (λ q. other_dev a b off (sym q))

pub counted_none : (rows : List CountRow) (d : DevAddr) (class : Class) → has_address (row_devs rows) d ≡ false → map (counted_row (Dev d) class) rows ≡ rows
counted_none [] d class none = refl
counted_none (r ∷ rows) d class none =
    let parts = or_false (same_dev r.dev d) (has_address (row_devs rows) d) none in
    rw (turned r.dev d parts.0) (ap (λ (rs : List CountRow). r ∷ rs) (counted_none rows d class parts.1))

pub none_counted : (rows : List CountRow) (d : DevAddr) (class : Class) → has_address (row_devs rows) d ≡ false → count_of rows d class ≡ 0
none_counted [] d class none = refl
none_counted (r ∷ rows) d class none =
    let parts = or_false (same_dev r.dev d) (has_address (row_devs rows) d) none in
    rw parts.0 (none_counted rows d class parts.1)

row_at : (rows : List CountRow) (i : ℕ) (d : DevAddr) (r : CountRow) → slice_get (row_devs rows) i ≡ Some d → slice_get rows i ≡ Some r → r.dev ≡ d
row_at [] i d r e f = absurd (cc f)
row_at (q ∷ rows) zero d r e f = let same : q ≡ r = cc f in let at : q.dev ≡ d = cc e in ap (λ (y : CountRow). y.dev) (sym same) ∙ at
row_at (q ∷ rows) (suc i) d r e f = row_at rows i d r e f

counted_here : (rows : List CountRow) (i : ℕ) (r : CountRow) (d : DevAddr) (class : Class) → Apart (row_devs rows) → slice_get (row_devs rows) i ≡ Some d → slice_get rows i ≡ Some r
    → (slice_set rows i (bumped_row class r) ≡ map (counted_row (Dev d) class) rows) × (count_of (slice_set rows i (bumped_row class r)) d class ≡ count_in (bump class r.counts) class)
counted_here [] i r d class apart at here = absurd (cc here)
counted_here (q ∷ rows) zero r d class apart at here =
    let same : q ≡ r = cc here in
    let dev : r.dev ≡ d = row_at (q ∷ rows) zero d r at here in
    let head : counted_row (Dev d) class q ≡ bumped_row class r = ap (counted_row (Dev d) class) same ∙ rw (dev, itself d) refl in
    let tail : map (counted_row (Dev d) class) rows ≡ rows = counted_none rows d class (subst (λ (z : DevAddr). has_address (row_devs rows) z ≡ false) (ap (λ (y : CountRow). y.dev) same ∙ dev) apart.0) in
    (rw (head, tail) refl, rw (dev, itself d) refl)
counted_here (q ∷ rows) (suc i) r d class apart at here =
    let rest = counted_here rows i r d class apart.1 at here in
    let off : same_dev q.dev d ≡ false = differ q.dev d (λ e. cc (sym apart.0 ∙ (ap (has_address (row_devs rows)) e ∙ stands_there (row_devs rows) i d at))) in
    (rw (turned q.dev d off) (ap (λ (rs : List CountRow). q ∷ rs) rest.0), rw off rest.1)

pub counted_at : (rows new : List CountRow) (devs : List DevAddr) (i n : ℕ) (d : DevAddr) (class : Class) → are_apart devs ≡ true → row_devs rows ≡ devs → slice_get devs i ≡ Some d → CountedAt rows new i class n
    → (new ≡ map (counted_row (Dev d) class) rows) × (n ≡ count_of (map (counted_row (Dev d) class) rows) d class)
counted_at rows new devs i n d class apart aligned at was =
    let here = counted_here rows i was.0 d class (subst Apart (sym aligned) (apart_of devs apart)) (ap (λ (ds : List DevAddr). slice_get ds i) aligned ∙ at) was.1 in
    (was.2 ∙ here.0, was.3 ∙ (sym here.1 ∙ ap (λ (rs : List CountRow). count_of rs d class) here.0))

pub aligned_at : (rows new : List CountRow) (devs : List DevAddr) (i n : ℕ) (class : Class) → row_devs rows ≡ devs → CountedAt rows new i class n → row_devs new ≡ devs
aligned_at rows new devs i n class aligned was = ap row_devs was.2 ∙ (row_devs_set rows i was.0 class was.1 ∙ aligned)

pub none_at : (rows : List CountRow) (devs : List DevAddr) (d : DevAddr) (class : Class) → row_devs rows ≡ devs → has_address devs d ≡ false
    → (rows ≡ map (counted_row (Dev d) class) rows) × (0 ≡ count_of (map (counted_row (Dev d) class) rows) d class)
none_at rows devs d class aligned none =
    let off = ap (λ (ds : List DevAddr). has_address ds d) aligned ∙ none in
    let same = counted_none rows d class off in
    (sym same, sym (ap (λ (rs : List CountRow). count_of rs d class) same ∙ none_counted rows d class off))

-- ---- the place of a unit

unit_address : (xs : List UnitRow) (d : DevAddr) → has_unit xs d ≡ has_address (unit_devs xs) d
unit_address [] d = refl
unit_address (x ∷ xs) d = ap (λ (t : Bool). same_dev x.dev d || t) (unit_address xs d)

pub no_unit_at : (xs : List UnitRow) (devs : List DevAddr) (d : DevAddr) → unit_devs xs ≡ devs → has_address devs d ≡ false → has_unit xs d ≡ false
no_unit_at xs devs d aligned none = unit_address xs d ∙ (ap (λ (ds : List DevAddr). has_address ds d) aligned ∙ none)

module _ (d : DevAddr) where
  unit_range : (xs : List UnitRow) (i : ℕ) → slice_get (unit_devs xs) i ≡ Some d → i < length xs
  unit_range [] i e = absurd (cc e)
  unit_range (x ∷ xs) zero e = omega arith
  unit_range (x ∷ xs) (suc i) e = let lt : i < length xs = unit_range xs i e in omega (arith, lt)

  unit_dev : (xs : List UnitRow) (i : ℕ) → slice_get (unit_devs xs) i ≡ Some d → (x : UnitRow) → slice_get xs i ≡ Some x → same_dev x.dev d ≡ true
  unit_dev [] i e x f = absurd (cc f)
  unit_dev (q ∷ xs) zero e x f = let same : q ≡ x = cc f in let at : q.dev ≡ d = cc e in ap (λ (z : DevAddr). same_dev z d) (ap (λ (y : UnitRow). y.dev) (sym same) ∙ at) ∙ itself d
  unit_dev (q ∷ xs) (suc i) e x f = unit_dev xs i e x f

  unit_first : (xs : List UnitRow) (i : ℕ) → Apart (unit_devs xs) → slice_get (unit_devs xs) i ≡ Some d → has_unit (take i xs) d ≡ false
  unit_first [] i apart e = absurd (cc e)
  unit_first (q ∷ xs) zero apart e = refl
  unit_first (q ∷ xs) (suc i) apart e =
      let off : same_dev q.dev d ≡ false = differ q.dev d (λ s. cc (sym apart.0 ∙ (ap (has_address (unit_devs xs)) s ∙ stands_there (unit_devs xs) i d e))) in
      rw off (unit_first xs i apart.1 e)

pub unit_at : (xs : List UnitRow) (devs : List DevAddr) (i : ℕ) (d : DevAddr) → are_apart devs ≡ true → unit_devs xs ≡ devs → slice_get devs i ≡ Some d
    → (i < length xs) × ((x : UnitRow) → slice_get xs i ≡ Some x → same_dev x.dev d ≡ true) × (has_unit (take i xs) d ≡ false)
unit_at xs devs i d apart aligned at =
    let e : slice_get (unit_devs xs) i ≡ Some d = ap (λ (ds : List DevAddr). slice_get ds i) aligned ∙ at in
    (unit_range d xs i e, unit_dev d xs i e, unit_first d xs i (subst Apart (sym aligned) (apart_of devs apart)) e)

pub place_is : (xs : List UnitRow) (devs : List DevAddr) (d : DevAddr) (o : Option ℕ) → are_apart devs ≡ true → unit_devs xs ≡ devs
    → MatchOption o (has_address devs d ≡ false) (λ i. slice_get devs i ≡ Some d)
    → MatchOption o (has_unit xs d ≡ false) (λ i. (i < length xs) × ((x : UnitRow) → slice_get xs i ≡ Some x → same_dev x.dev d ≡ true) × (has_unit (take i xs) d ≡ false))
place_is xs devs d None apart aligned is = no_unit_at xs devs d aligned is
place_is xs devs d (Some i) apart aligned is = unit_at xs devs i d apart aligned is
