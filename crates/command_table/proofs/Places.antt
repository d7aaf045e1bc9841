-- Rows found by a command's id and by their place, and what a write at a place changes.
use Rattle.std.proofs.Common.{◌≡◌, ◌≢◌, ◌∙◌, sym, ap, refl, ℕ, zero, suc, ◌<◌, ◌≤◌, ◌==◌, Bool, true, false, not, ◌||◌, cond, List, [], ◌∷◌, length, set, map, Option, None, Some, arith, inl, inr}
use Rattle.std.specs.Prelude.{find, option_map, slice_get}
use Rattle.std.specs.List.{list_any}
use Rattle.std.proofs.lemmas.Bool.{cases_Bool, false≢true, eq-eqb, eqb-true, ne_eqb, and_parts, not-true}
use Rattle.std.proofs.lemmas.Option.{same_Some, none-some}
use Rattle.mid_base.specs.declared.names.CmdId.{CmdId}
use Rattle.mid_base.specs.declared.host_spec.CmdSpec.{CmdSpec}
use Rattle.mid_base.specs.declared.host_spec.LunSpec.{LunSpec}
use Rattle.mid_base.specs.Limits.{differ_in_id}
use Rattle.command_table.specs.declared.rows.CommandRow.{CommandRow}
use Rattle.command_table.specs.Rows.{row_of, AreFor, is_left, first_left, start_row, home}

same : (n : ℕ) → (n == n) ≡ true
same n = eq-eqb n n refl

-- an id that none of the commands has is none of the rows'
absent : (c : ℕ) (luns : List LunSpec) (ks : List CmdSpec) (rs : List CommandRow) → AreFor luns ks rs → list_any (λ k. k.id.0 == c) ks ≡ false
    → (i : ℕ) (r : CommandRow) → slice_get rs i ≡ Some r → (r.id.0 == c) ≡ false
absent c luns [] [] are none i r at = absurd (none-some r at)
absent c luns (k ∷ ks) (q ∷ rs) are none zero r at =
    let here : q ≡ r = same_Some q r at in
    let id : r.id ≡ k.id = ap (λ (x : CommandRow). x.id) (sym here) ∙ are.0 in
    ap (λ (x : CmdId). x.0 == c) id ∙ first_false (k.id.0 == c) (list_any (λ j. j.id.0 == c) ks) none
  where
    first_false : (a b : Bool) → a || b ≡ false → a ≡ false
    first_false true b h = absurd (false≢true (sym h))
    first_false false b h = refl
absent c luns (k ∷ ks) (q ∷ rs) are none (suc i) r at = absent c luns ks rs are.3 (rest_false (k.id.0 == c) (list_any (λ j. j.id.0 == c) ks) none) i r at
  where
    rest_false : (a b : Bool) → a || b ≡ false → b ≡ false
    rest_false true b h = absurd (false≢true (sym h))
    rest_false false b h = h
absent c luns [] (q ∷ rs) are none i r at = absurd are
absent c luns (k ∷ ks) [] are none i r at = absurd are

differ_here : (k : CmdSpec) (ks : List CmdSpec) → differ_in_id (k ∷ ks) ≡ true → list_any (λ j. j.id.0 == k.id.0) ks ≡ false
differ_here k ks h = not-true (list_any (λ j. j.id.0 == k.id.0) ks) (and_parts (not (list_any (λ j. j.id.0 == k.id.0) ks)) (differ_in_id ks) h).0

differ_rest : (k : CmdSpec) (ks : List CmdSpec) → differ_in_id (k ∷ ks) ≡ true → differ_in_id ks ≡ true
differ_rest k ks h = (and_parts (not (list_any (λ j. j.id.0 == k.id.0) ks)) (differ_in_id ks) h).1

-- the row at a place is the one of its id
pub at_place : (luns : List LunSpec) (ks : List CmdSpec) (rs : List CommandRow) → AreFor luns ks rs → differ_in_id ks ≡ true
    → (i : ℕ) (r : CommandRow) → slice_get rs i ≡ Some r → row_of r.id.0 rs ≡ Some r
at_place luns [] [] are ids i r at = absurd (none-some r at)
at_place luns (k ∷ ks) (q ∷ rs) are ids zero r at =
    let here : q ≡ r = same_Some q r at in
    rw here (rw (same r.id.0) refl)
at_place luns (k ∷ ks) (q ∷ rs) are ids (suc i) r at =
    let apart : (r.id.0 == k.id.0) ≡ false = absent k.id.0 luns ks rs are.3 (differ_here k ks ids) i r at in
    let other : (q.id.0 == r.id.0) ≡ false = ne_eqb q.id.0 r.id.0 (λ e. false≢true (sym apart ∙ eq-eqb r.id.0 k.id.0 (sym e ∙ ap (λ (x : CmdId). x.0) are.0))) in
    rw other (at_place luns ks rs are.3 (differ_rest k ks ids) i r at)
at_place luns [] (q ∷ rs) are ids i r at = absurd are
at_place luns (k ∷ ks) [] are ids i r at = absurd are

-- a write at a place changes the row of its id alone
pub row_set : (luns : List LunSpec) (ks : List CmdSpec) (rs : List CommandRow) → AreFor luns ks rs → differ_in_id ks ≡ true
    → (i : ℕ) (r new : CommandRow) → slice_get rs i ≡ Some r → new.id ≡ r.id
    → (c : ℕ) → row_of c (set rs i new) ≡ cond (r.id.0 == c) (Some new) (row_of c rs)
row_set luns [] [] are ids i r new at id c = absurd (none-some r at)
row_set luns (k ∷ ks) (q ∷ rs) are ids zero r new at id c =
    let old : (q.id.0 == c) ≡ (r.id.0 == c) = ap (λ (x : CommandRow). x.id.0 == c) (same_Some q r at) in
    let now : (new.id.0 == c) ≡ (r.id.0 == c) = ap (λ (x : CmdId). x.0 == c) id in
    rw (old, now) (twice (r.id.0 == c) (Some new) (Some q) (row_of c rs))
  where
    twice : {A : Type 0} (b : Bool) (x y z : A) → cond b x z ≡ cond b x (cond b y z)
    twice true x y z = refl
    twice false x y z = refl
row_set luns (k ∷ ks) (q ∷ rs) are ids (suc i) r new at id c =
    let apart : (r.id.0 == k.id.0) ≡ false = absent k.id.0 luns ks rs are.3 (differ_here k ks ids) i r at in
    rw (row_set luns ks rs are.3 (differ_rest k ks ids) i r new at id c)
    (swap (q.id.0 == c) (r.id.0 == c) (Some q) (Some new) (row_of c rs) (λ one other. false≢true (sym apart ∙ eq-eqb r.id.0 k.id.0 (eqb-true r.id.0 c other ∙ sym (eqb-true q.id.0 c one) ∙ ap (λ (x : CmdId). x.0) are.0))))
  where
    swap : {A : Type 0} (a b : Bool) (x y z : A) → (a ≡ true → b ≡ true → ⊥) → cond a x (cond b y z) ≡ cond b y (cond a x z)
    swap true true x y z h = absurd (h refl refl)
    swap true false x y z h = refl
    swap false b x y z h = refl
row_set luns [] (q ∷ rs) are ids i r new at id c = absurd are
row_set luns (k ∷ ks) [] are ids i r new at id c = absurd are

pub for_set : (luns : List LunSpec) (ks : List CmdSpec) (rs : List CommandRow) → AreFor luns ks rs
    → (i : ℕ) (r new : CommandRow) → slice_get rs i ≡ Some r → new.id ≡ r.id → new.lane ≡ r.lane → new.device ≡ r.device → AreFor luns ks (set rs i new)
for_set luns [] [] are i r new at id lane device = tt
for_set luns (k ∷ ks) (q ∷ rs) are zero r new at id lane device =
    let here : r ≡ q = sym (same_Some q r at) in (
      id ∙ ap (λ (x : CommandRow). x.id) here ∙ are.0,
      lane ∙ ap (λ (x : CommandRow). x.lane) here ∙ are.1,
      device ∙ ap (λ (x : CommandRow). x.device) here ∙ are.2,
      are.3,
    )
for_set luns (k ∷ ks) (q ∷ rs) are (suc i) r new at id lane device = (are.0, are.1, are.2, for_set luns ks rs are.3 i r new at id lane device)
for_set luns [] (q ∷ rs) are i r new at id lane device = absurd are
for_set luns (k ∷ ks) [] are i r new at id lane device = absurd are

pub starts_for : (luns : List LunSpec) (ks : List CmdSpec) → AreFor luns ks (map (start_row luns) ks)
starts_for luns [] = tt
starts_for luns (k ∷ ks) = (refl, refl, refl, starts_for luns ks)

-- what stands at a place after a write
pub get_same : {A : Type 0} (xs : List A) (i : ℕ) (x y : A) → slice_get xs i ≡ Some x → slice_get (set xs i y) i ≡ Some y
get_same [] i x y at = absurd (none-some x at)
get_same (z ∷ xs) zero x y at = refl
get_same (z ∷ xs) (suc i) x y at = get_same xs i x y at

get_other : {A : Type 0} (xs : List A) (i j : ℕ) (y : A) → i ≢ j → slice_get (set xs i y) j ≡ slice_get xs j
get_other [] i j y ne = refl
get_other (z ∷ xs) zero zero y ne = absurd (ne refl)
get_other (z ∷ xs) zero (suc j) y ne = refl
get_other (z ∷ xs) (suc i) zero y ne = refl
get_other (z ∷ xs) (suc i) (suc j) y ne = get_other xs i j y (λ e. ne (ap suc e))

pub get_set : {A : Type 0} (xs : List A) (i j : ℕ) (x y : A) → slice_get xs i ≡ Some x → slice_get (set xs i y) j ≡ cond (i == j) (Some y) (slice_get xs j)
get_set xs i j x y at = elim (cases_Bool (i == j)) as (λ _. slice_get (set xs i y) j ≡ cond (i == j) (Some y) (slice_get xs j)) [
  | inl is ↦ let e : i ≡ j = eqb-true i j is in rw (is, ← e) (get_same xs i x y at)
  | inr isnt ↦ rw isnt (get_other xs i j y (λ e. false≢true (sym isnt ∙ eq-eqb i j e)))
]

-- there is a row where something is said of it
pub row_here : {A : Type 0} (f : CommandRow → A) (rs : List CommandRow) (i : ℕ) (x : A) → option_map f (slice_get rs i) ≡ Some x → (r : CommandRow) × (slice_get rs i ≡ Some r)
row_here {A} f rs i x is = found (slice_get rs i) refl is
  where
    found : (o : Option CommandRow) → slice_get rs i ≡ o → option_map f o ≡ Some x → (r : CommandRow) × (slice_get rs i ≡ Some r)
    found None get e = absurd (none-some x e)
    found (Some r) get e = (r, get)

-- the first command of a lane that isn't handed in
pub first_is : (lane : ℕ) (rs : List CommandRow) (j : ℕ) → ((k : ℕ) (r : CommandRow) → k < j → slice_get rs k ≡ Some r → is_left lane r ≡ false)
    → ((r : CommandRow) → slice_get rs j ≡ Some r → is_left lane r ≡ true) → j ≤ length rs → j ≡ first_left lane rs
first_is lane [] j before here within = omega (arith, within)
first_is lane (r ∷ rs) zero before here within = rw (here r refl) refl
first_is lane (r ∷ rs) (suc j) before here within =
    let first : is_left lane r ≡ false = before 0 r (omega arith) refl in
    let rest : j ≡ first_left lane rs = first_is lane rs j (λ k q lt at. before (suc k) q (omega (arith, lt)) at) here (omega (arith, within)) in
    rw first (ap suc rest)

before_here : (b : Bool) (k n : ℕ) → b ≡ true → k < cond b 0 (suc n) → ⊥
before_here true k n is lt = omega (arith, lt)
before_here false k n is lt = absurd (false≢true is)

before_later : (b : Bool) (k n : ℕ) → b ≡ false → suc k < cond b 0 (suc n) → k < n
before_later true k n isnt lt = absurd (false≢true (sym isnt))
before_later false k n isnt lt = omega (arith, lt)

pub before_first : (lane : ℕ) (rs : List CommandRow) (k : ℕ) (r : CommandRow) → k < first_left lane rs → slice_get rs k ≡ Some r → is_left lane r ≡ false
before_first lane [] k r lt at = absurd (none-some r at)
before_first lane (q ∷ rs) zero r lt at = elim (cases_Bool (is_left lane q)) as (λ _. is_left lane r ≡ false) [
  | inl is ↦ absurd (before_here (is_left lane q) 0 (first_left lane rs) is lt)
  | inr isnt ↦ ap (is_left lane) (sym (same_Some q r at)) ∙ isnt
]
before_first lane (q ∷ rs) (suc k) r lt at = elim (cases_Bool (is_left lane q)) as (λ _. is_left lane r ≡ false) [
  | inl is ↦ absurd (before_here (is_left lane q) (suc k) (first_left lane rs) is lt)
  | inr isnt ↦ before_first lane rs k r (before_later (is_left lane q) k (first_left lane rs) isnt lt) at
]

pub first_passes : (lane : ℕ) (rs : List CommandRow) (r : CommandRow) → slice_get rs (first_left lane rs) ≡ Some r → is_left lane r ≡ true
first_passes lane [] r at = absurd (none-some r at)
first_passes lane (q ∷ rs) r at = elim (cases_Bool (is_left lane q)) as (λ _. is_left lane r ≡ true) [
  | inl is ↦ ap (is_left lane) (sym (same_Some q r (sym (first_at (is_left lane q) is) ∙ at))) ∙ is
  | inr isnt ↦ first_passes lane rs r (sym (later_at (is_left lane q) isnt) ∙ at)
]
  where
    first_at : (b : Bool) → b ≡ true → slice_get (q ∷ rs) (cond b 0 (suc (first_left lane rs))) ≡ Some q
    first_at true is = refl
    first_at false is = absurd (false≢true is)

    later_at : (b : Bool) → b ≡ false → slice_get (q ∷ rs) (cond b 0 (suc (first_left lane rs))) ≡ slice_get rs (first_left lane rs)
    later_at true isnt = absurd (false≢true (sym isnt))
    later_at false isnt = refl

pub first_set : (lane : ℕ) (rs : List CommandRow) (i : ℕ) (r new : CommandRow) → slice_get rs i ≡ Some r → is_left lane new ≡ is_left lane r
    → first_left lane (set rs i new) ≡ first_left lane rs
first_set lane [] i r new at e = refl
first_set lane (q ∷ rs) zero r new at e =
    let here : is_left lane new ≡ is_left lane q = e ∙ ap (is_left lane) (sym (same_Some q r at)) in rw here refl
first_set lane (q ∷ rs) (suc i) r new at e = rw (first_set lane rs i r new at e) refl

pub next_is : (p : CmdSpec → Bool) (lane : ℕ) (luns : List LunSpec) (ks : List CmdSpec) (rs : List CommandRow) → AreFor luns ks rs
    → ((i : ℕ) (k : CmdSpec) (r : CommandRow) → slice_get ks i ≡ Some k → slice_get rs i ≡ Some r → p k ≡ is_left lane r)
    → find p ks ≡ slice_get ks (first_left lane rs)
next_is p lane luns [] [] are h = refl
next_is p lane luns (k ∷ ks) (r ∷ rs) are h = elim (cases_Bool (is_left lane r)) [
  | inl is ↦ rw (h 0 k r refl refl ∙ is, is) refl
  | inr isnt ↦ rw (h 0 k r refl refl ∙ isnt, isnt) (next_is p lane luns ks rs are.3 (λ i j q a b. h (suc i) j q a b))
]
next_is p lane luns [] (r ∷ rs) are h = absurd are
next_is p lane luns (k ∷ ks) [] are h = absurd are

-- the command and the row at a place
pub both_at : (luns : List LunSpec) (ks : List CmdSpec) (rs : List CommandRow) → AreFor luns ks rs → (i : ℕ) (k : CmdSpec) (r : CommandRow)
    → slice_get ks i ≡ Some k → slice_get rs i ≡ Some r → (r.id ≡ k.id) × (r.lane ≡ k.lane) × (r.device ≡ home k.dev luns)
both_at luns [] [] are i k r a b = absurd (none-some k a)
both_at luns (j ∷ ks) (q ∷ rs) are zero k r a b =
    let one : j ≡ k = same_Some j k a in
    let other : q ≡ r = same_Some q r b in
    (rw (← one, ← other) are.0, rw (← one, ← other) are.1, rw (← one, ← other) are.2)
both_at luns (j ∷ ks) (q ∷ rs) are (suc i) k r a b = both_at luns ks rs are.3 i k r a b
both_at luns [] (q ∷ rs) are i k r a b = absurd are
both_at luns (j ∷ ks) [] are i k r a b = absurd are

pub command_at : (luns : List LunSpec) (ks : List CmdSpec) (rs : List CommandRow) → AreFor luns ks rs → (i : ℕ) (r : CommandRow) → slice_get rs i ≡ Some r → (k : CmdSpec) × (slice_get ks i ≡ Some k)
command_at luns [] [] are i r at = absurd (none-some r at)
command_at luns (k ∷ ks) (q ∷ rs) are zero r at = (k, refl)
command_at luns (k ∷ ks) (q ∷ rs) are (suc i) r at = command_at luns ks rs are.3 i r at
command_at luns [] (q ∷ rs) are i r at = absurd are
command_at luns (k ∷ ks) [] are i r at = absurd are
