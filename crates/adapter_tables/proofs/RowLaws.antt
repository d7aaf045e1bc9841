-- How an entry changes the counts.
use Rattle.std.proofs.Common.{◌≡◌, ◌≢◌, ℕ, ◌+◌, ◌==◌, ◌&&◌, ◌||◌, min, Bool, true, false, if◌then◌else◌, List, [], ◌∷◌, map, refl, sym, ap, ◌∙◌, subst, inl, inr, eq-eqb, eqb-true, arith}
use Rattle.std.proofs.lemmas.Bool.Decides.{leb_tells}
use Rattle.mid_base.specs.declared.names.DevAddr.{DevAddr}
use Rattle.mid_base.specs.declared.host_spec.LunSpec.{LunSpec}
use Rattle.mid_base.specs.declared.answers.Scope.{Scope}
use Rattle.mid_base.specs.Address.{same_dev, in_scope, has_dev}
use Rattle.fault_plan.specs.declared.class.Class.{Class}
use Rattle.fault_plan.specs.declared.class.Class.TheVariants.{Queue, Time, Answer, Timer, Abort, ResetDevice, ResetTarget, ResetBus, ResetHost, Probe as Probing}
use Rattle.adapter_tables.specs.declared.counts.CountRow.{CountRow}
use Rattle.adapter_tables.specs.declared.counts.CallCounts.{CallCounts}
use Rattle.adapter_tables.specs.Ties.{cap, up, count_in, bump, counted_row, count_of, RowIs, RowsAre}

-- a call of the first class counts for the second too
abbrev pub touches : Class → Class → Bool
touches Queue Queue = true
touches Queue Time = true
touches Queue Answer = true
touches Timer Timer = true
touches Abort Abort = true
touches ResetDevice ResetDevice = true
touches ResetTarget ResetTarget = true
touches ResetBus ResetBus = true
touches ResetHost ResetHost = true
touches Probing Probing = true
touches _ _ = false

abbrev pub IsCalled : Class → Type 0
IsCalled Time = ⊥
IsCalled Answer = ⊥
IsCalled _ = Unit {0}

pub bumped : (class x : Class) (c : CallCounts) → IsCalled class → count_in (bump class c) x ≡ (if touches class x then up (count_in c x) else count_in c x)
bumped Time x c u = absurd u
bumped Answer x c u = absurd u
bumped Queue Queue c u = refl
bumped Timer Timer c u = refl
bumped Abort Abort c u = refl
bumped ResetDevice ResetDevice c u = refl
bumped ResetTarget ResetTarget c u = refl
bumped ResetBus ResetBus c u = refl
bumped ResetHost ResetHost c u = refl
bumped Probing Probing c u = refl
bumped class x c u = refl

pub up_min : (k : ℕ) → up (min k cap) ≡ min (k + 1) cap
up_min k = elim (leb_tells cap (min k cap)) [ inl le ↦ rw le.0 (omega (arith, le.1)) | inr gt ↦ rw gt.0 (omega (arith, gt.1)) ]

bumped_min : (t : Bool) (c k j : ℕ) → c ≡ min k cap → j ≡ (if t then k + 1 else k) → (if t then up c else c) ≡ min j cap
bumped_min true c k j e q = ap up e ∙ (up_min k ∙ ap (λ i. min i cap) (sym q))
bumped_min false c k j e q = e ∙ ap (λ i. min i cap) (sym q)

-- the devices in scope have one call more
pub row_counted : (f g : DevAddr → Class → ℕ) (scope : Scope) (class : Class) → IsCalled class
    → ((d : DevAddr) (x : Class) → g d x ≡ (if in_scope scope d && touches class x then f d x + 1 else f d x))
    → (l : LunSpec) (r : CountRow) → RowIs f l r → RowIs g l (counted_row scope class r)
row_counted f g scope class called more l r is = by (in_scope scope r.dev) refl
  where
    by : (t : Bool) → in_scope scope r.dev ≡ t → RowIs g l (if t then record r { counts = bump class r.counts } else r)
    by true e = (
      is.0,
      (λ x. bumped class x r.counts called ∙ bumped_min (touches class x) (count_in r.counts x) (f l.dev x) (g l.dev x) (is.1 x)
          (more l.dev x ∙ rw (subst (λ (d : DevAddr). in_scope scope d ≡ true) is.0 e) refl)),
    )
    by false e = (is.0, (λ x. is.1 x ∙ ap (λ i. min i cap) (sym (more l.dev x ∙ rw (subst (λ (d : DevAddr). in_scope scope d ≡ false) is.0 e) refl))))

-- what is done to each row
pub rows_map : (f g : DevAddr → Class → ℕ) (h : CountRow → CountRow) → ((l : LunSpec) (r : CountRow) → RowIs f l r → RowIs g l (h r))
    → (ls : List LunSpec) (rs : List CountRow) → RowsAre f ls rs → RowsAre g ls (map h rs)
rows_map f g h step [] [] is = tt
rows_map f g h step (l ∷ ls) (r ∷ rs) is = (step l r is.0, rows_map f g h step ls rs is.1)
rows_map f g h step [] (r ∷ rs) is = absurd is
rows_map f g h step (l ∷ ls) [] is = absurd is

and_true : (a b : Bool) → a && b ≡ true → (a ≡ true) × (b ≡ true)
and_true true b e = (refl, e)
and_true false b e = absurd (cc e)

pub same_dev_tells : (a b : DevAddr) → same_dev a b ≡ true → a ≡ b
same_dev_tells a b e =
    let x = and_true ((a.channel == b.channel) && (a.target == b.target)) (a.lun == b.lun) e in
    let y = and_true (a.channel == b.channel) (a.target == b.target) x.0 in
    let c : a.channel ≡ b.channel = eqb-true a.channel b.channel y.0 in
    let t : a.target ≡ b.target = eqb-true a.target b.target y.1 in
    let n : a.lun ≡ b.lun = eqb-true a.lun b.lun x.1 in
    ap (λ (z : ℕ × ℕ × ℕ). the_dev z) (cc (c, t, n))
  where
    the_dev : ℕ × ℕ × ℕ → DevAddr
    the_dev z = record { channel = z.0; target = z.1; lun = z.2 }

-- the count of a device that has a unit
pub count_found : (f : DevAddr → Class → ℕ) (d : DevAddr) (x : Class) (ls : List LunSpec) (rs : List CountRow)
    → has_dev ls d ≡ true → RowsAre f ls rs → count_of rs d x ≡ min (f d x) cap
count_found f d x [] rs has is = absurd (cc has)
count_found f d x (l ∷ ls) [] has is = absurd is
count_found f d x (l ∷ ls) (r ∷ rs) has is = rw is.0.0 (by (same_dev l.dev d) refl has (λ h. count_found f d x ls rs h is.1))
  where
    by : (t : Bool) → same_dev l.dev d ≡ t → t || has_dev ls d ≡ true → (has_dev ls d ≡ true → count_of rs d x ≡ min (f d x) cap) → (if t then count_in r.counts x else count_of rs d x) ≡ min (f d x) cap
    by true e h rest = is.0.1 x ∙ ap (λ (y : DevAddr). min (f y x) cap) (same_dev_tells l.dev d e)
    by false e h rest = rest h

pub itself : (a : DevAddr) → same_dev a a ≡ true
itself a = rw (eq-eqb a.channel a.channel refl, eq-eqb a.target a.target refl, eq-eqb a.lun a.lun refl) refl

-- an address is another one
pub other_dev : (a b : DevAddr) → same_dev a b ≡ false → a ≢ b
other_dev a b off e = absurd (cc (sym off ∙ (ap (λ (y : DevAddr). same_dev a y) (sym e) ∙ itself a)))

pub differ : (a b : DevAddr) → a ≢ b → same_dev a b ≡ false
differ a b off = by (same_dev a b) refl
  where
    by : (t : Bool) → same_dev a b ≡ t → t ≡ false
    by true e = absurd (off (same_dev_tells a b e))
    by false e = refl

pub same_queue : (rs : List CountRow) (d : DevAddr) → (count_of rs d Time ≡ count_of rs d Queue) × (count_of rs d Answer ≡ count_of rs d Queue)
same_queue [] d = (refl, refl)
same_queue (r ∷ rs) d = by (same_dev r.dev d) (same_queue rs d)
  where
    by : (t : Bool) → (count_of rs d Time ≡ count_of rs d Queue) × (count_of rs d Answer ≡ count_of rs d Queue)
        → ((if t then r.counts.queue else count_of rs d Time) ≡ (if t then r.counts.queue else count_of rs d Queue))
        × ((if t then r.counts.queue else count_of rs d Answer) ≡ (if t then r.counts.queue else count_of rs d Queue))
    by true h = (refl, refl)
    by false h = h
