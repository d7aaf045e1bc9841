-- Rows found by their place and their address, and what a write at a place changes.
use Rattle.std.proofs.Common.{◌≡◌, ◌≢◌, ◌∙◌, sym, ap, refl, ℕ, zero, suc, ◌==◌, Bool, true, false, not, ◌||◌, List, [], ◌∷◌, set, map, Some, ◌⊎◌, arith, inl, inr}
use Rattle.std.specs.Prelude.{slice_get}
use Rattle.std.proofs.lemmas.Bool.{cases_Bool, false≢true, eq-eqb, eqb-true, and_parts, not-true}
use Rattle.std.proofs.lemmas.Bool.Decides.{nat_tests}
use Rattle.std.proofs.lemmas.Option.{same_Some, none-some}
use Rattle.mid_base.specs.declared.names.DevAddr.{DevAddr}
use Rattle.mid_base.specs.declared.host_spec.LunSpec.{LunSpec}
use Rattle.mid_base.specs.Address.{same_dev, has_dev}
use Rattle.mid_base.specs.Limits.{differ_in_address}
use Rattle.device_table.specs.declared.rows.DeviceRow.{DeviceRow}
use Rattle.device_table.specs.Rows.{AreFor, start_row}

pub same_self : (d : DevAddr) → same_dev d d ≡ true
same_self d = rw (eq-eqb d.channel d.channel refl, eq-eqb d.target d.target refl, eq-eqb d.lun d.lun refl) refl

pub equal_dev : (a b : DevAddr) → same_dev a b ≡ true → a ≡ b
equal_dev a b same =
    let channel : a.channel ≡ b.channel = grind (arith, nat_tests) in
    let target : a.target ≡ b.target = grind (arith, nat_tests) in
    let lun : a.lun ≡ b.lun = grind (arith, nat_tests) in
    ap (λ (x : ℕ). address x a.target a.lun) channel ∙ ap (λ (y : ℕ). address b.channel y a.lun) target ∙ ap (address b.channel b.target) lun
  where
    address : ℕ → ℕ → ℕ → DevAddr
    address x y z = record { channel = x; target = y; lun = z }

-- what stands at a place after a write
get_same : {A : Type 0} (xs : List A) (i : ℕ) (x y : A) → slice_get xs i ≡ Some x → slice_get (set xs i y) i ≡ Some y
get_same [] i x y at = absurd (none-some x at)
get_same (z ∷ xs) zero x y at = refl
get_same (z ∷ xs) (suc i) x y at = get_same xs i x y at

get_other : {A : Type 0} (xs : List A) (i j : ℕ) (y : A) → i ≢ j → slice_get (set xs i y) j ≡ slice_get xs j
get_other [] i j y ne = refl
get_other (z ∷ xs) zero zero y ne = absurd (ne refl)
get_other (z ∷ xs) zero (suc j) y ne = refl
get_other (z ∷ xs) (suc i) zero y ne = refl
get_other (z ∷ xs) (suc i) (suc j) y ne = get_other xs i j y (λ e. ne (ap suc e))

-- a row after one was written is the new one, or another one that was there
pub after_write : {A : Type 0} (xs : List A) (i j : ℕ) (x y z : A) → slice_get xs i ≡ Some x → slice_get (set xs i y) j ≡ Some z
    → ((i ≡ j) × (y ≡ z)) ⊎ ((i ≢ j) × (slice_get xs j ≡ Some z))
after_write xs i j x y z at get = elim (cases_Bool (i == j)) as (λ _. ((i ≡ j) × (y ≡ z)) ⊎ ((i ≢ j) × (slice_get xs j ≡ Some z))) [
  | inl is ↦
      let e : i ≡ j = eqb-true i j is in
      inl (e, same_Some y z (sym (get_same xs i x y at) ∙ ap (slice_get (set xs i y)) e ∙ get))
  | inr isnt ↦
      let ne : i ≢ j = λ e. false≢true (sym isnt ∙ eq-eqb i j e) in
      inr (ne, sym (get_other xs i j y ne) ∙ get)
]

-- rows at two places are of two devices
absent : (ls : List LunSpec) (rs : List DeviceRow) (d : DevAddr) → AreFor ls rs → has_dev ls d ≡ false → (i : ℕ) (r : DeviceRow) → slice_get rs i ≡ Some r → same_dev r.dev d ≡ false
absent [] [] d are none i r at = absurd (none-some r at)
absent (l ∷ ls) (q ∷ rs) d are none zero r at =
    ap (λ (x : DeviceRow). same_dev x.dev d) (sym (same_Some q r at)) ∙ ap (λ (a : DevAddr). same_dev a d) are.0 ∙ first_off (same_dev l.dev d) (has_dev ls d) none
  where
    first_off : (a b : Bool) → a || b ≡ false → a ≡ false
    first_off true b h = absurd (false≢true (sym h))
    first_off false b h = refl
absent (l ∷ ls) (q ∷ rs) d are none (suc i) r at = absent ls rs d are.1 (rest_off (same_dev l.dev d) (has_dev ls d) none) i r at
  where
    rest_off : (a b : Bool) → a || b ≡ false → b ≡ false
    rest_off true b h = absurd (false≢true (sym h))
    rest_off false b h = h
absent [] (q ∷ rs) d are none i r at = absurd are
absent (l ∷ ls) [] d are none i r at = absurd are

same_turned : (a b : DevAddr) → same_dev a b ≡ false → same_dev b a ≡ false
same_turned a b apart = elim (cases_Bool (same_dev b a)) as (λ _. same_dev b a ≡ false) [
  | inl is ↦ absurd (false≢true (sym apart ∙ ap (λ (x : DevAddr). same_dev a x) (equal_dev b a is) ∙ same_self a))
  | inr isnt ↦ isnt
]

pub apart_rows : (ls : List LunSpec) (rs : List DeviceRow) → AreFor ls rs → differ_in_address ls ≡ true → (i j : ℕ) (r q : DeviceRow)
    → slice_get rs i ≡ Some r → slice_get rs j ≡ Some q → i ≢ j → same_dev r.dev q.dev ≡ false
apart_rows [] [] are differ i j r q one other ne = absurd (none-some r one)
apart_rows (l ∷ ls) (x ∷ rs) are differ zero zero r q one other ne = absurd (ne refl)
apart_rows (l ∷ ls) (x ∷ rs) are differ zero (suc j) r q one other ne =
    let off : has_dev ls l.dev ≡ false = not-true (has_dev ls l.dev) (and_parts (not (has_dev ls l.dev)) (differ_in_address ls) differ).0 in
    let first : l.dev ≡ r.dev = sym are.0 ∙ ap (λ (y : DeviceRow). y.dev) (same_Some x r one) in
    same_turned q.dev r.dev (ap (same_dev q.dev) (sym first) ∙ absent ls rs l.dev are.1 off j q other)
apart_rows (l ∷ ls) (x ∷ rs) are differ (suc i) zero r q one other ne =
    let off : has_dev ls l.dev ≡ false = not-true (has_dev ls l.dev) (and_parts (not (has_dev ls l.dev)) (differ_in_address ls) differ).0 in
    let first : l.dev ≡ q.dev = sym are.0 ∙ ap (λ (y : DeviceRow). y.dev) (same_Some x q other) in
    ap (same_dev r.dev) (sym first) ∙ absent ls rs l.dev are.1 off i r one
apart_rows (l ∷ ls) (x ∷ rs) are differ (suc i) (suc j) r q one other ne =
    apart_rows ls rs are.1 (and_parts (not (has_dev ls l.dev)) (differ_in_address ls) differ).1 i j r q one other (λ e. ne (ap suc e))
apart_rows [] (x ∷ rs) are differ i j r q one other ne = absurd are
apart_rows (l ∷ ls) [] are differ i j r q one other ne = absurd are

pub for_set : (ls : List LunSpec) (rs : List DeviceRow) → AreFor ls rs → (i : ℕ) (r new : DeviceRow) → slice_get rs i ≡ Some r → new.dev ≡ r.dev → AreFor ls (set rs i new)
for_set [] [] are i r new at dev = tt
for_set (l ∷ ls) (q ∷ rs) are zero r new at dev = (dev ∙ ap (λ (x : DeviceRow). x.dev) (sym (same_Some q r at)) ∙ are.0, are.1)
for_set (l ∷ ls) (q ∷ rs) are (suc i) r new at dev = (are.0, for_set ls rs are.1 i r new at dev)
for_set [] (q ∷ rs) are i r new at dev = absurd are
for_set (l ∷ ls) [] are i r new at dev = absurd are

pub for_map : (f : DeviceRow → DeviceRow) → ((r : DeviceRow) → (f r).dev ≡ r.dev) → (ls : List LunSpec) (rs : List DeviceRow) → AreFor ls rs → AreFor ls (map f rs)
for_map f keeps [] [] are = tt
for_map f keeps (l ∷ ls) (q ∷ rs) are = (keeps q ∙ are.0, for_map f keeps ls rs are.1)
for_map f keeps [] (q ∷ rs) are = absurd are
for_map f keeps (l ∷ ls) [] are = absurd are

pub starts_for : (ls : List LunSpec) → AreFor ls (map start_row ls)
starts_for [] = tt
starts_for (l ∷ ls) = (refl, starts_for ls)

-- a host has a device exactly where a row has its address
pub has_row : (ls : List LunSpec) (rs : List DeviceRow) (d : DevAddr) → AreFor ls rs → (i : ℕ) (r : DeviceRow) → slice_get rs i ≡ Some r → same_dev r.dev d ≡ true → has_dev ls d ≡ true
has_row [] [] d are i r at is = absurd (none-some r at)
has_row (l ∷ ls) (q ∷ rs) d are zero r at is =
    let here : same_dev l.dev d ≡ true = ap (λ (a : DevAddr). same_dev a d) (sym are.0) ∙ ap (λ (x : DeviceRow). same_dev x.dev d) (same_Some q r at) ∙ is in
    rw here refl
has_row (l ∷ ls) (q ∷ rs) d are (suc i) r at is = elim (cases_Bool (same_dev l.dev d)) as (λ _. has_dev (l ∷ ls) d ≡ true) [
  | inl here ↦ rw here refl
  | inr isnt ↦ rw isnt (has_row ls rs d are.1 i r at is)
]
has_row [] (q ∷ rs) d are i r at is = absurd are
has_row (l ∷ ls) [] d are i r at is = absurd are

pub no_row : (ls : List LunSpec) (rs : List DeviceRow) (d : DevAddr) → AreFor ls rs → ((i : ℕ) (r : DeviceRow) → slice_get rs i ≡ Some r → same_dev r.dev d ≡ false) → has_dev ls d ≡ false
no_row [] [] d are h = refl
no_row (l ∷ ls) (q ∷ rs) d are h =
    let here : same_dev l.dev d ≡ false = ap (λ (a : DevAddr). same_dev a d) (sym are.0) ∙ h 0 q refl in
    rw here (no_row ls rs d are.1 (λ i r at. h (suc i) r at))
no_row [] (q ∷ rs) d are h = absurd are
no_row (l ∷ ls) [] d are h = absurd are
