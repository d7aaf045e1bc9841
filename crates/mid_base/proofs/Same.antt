-- Padded arrays with equal lists are equal.
use Rattle.std.proofs.Common.{◌≡◌, ℕ, ◌-◌, List, ◌++◌, length, take, drop, replicate, sym, ap, ◌∙◌, subst, arith, length-take, take-append-drop}
use Rattle.mid_base.specs.Padded.{IsPadded}
use Rattle.mid_base.specs.Bytes.{cdb_list, sense_list}
use Rattle.mid_base.specs.declared.bytes.CdbBytes.{CdbBytes}
use Rattle.mid_base.specs.declared.bytes.SenseBytes.{SenseBytes}
use mathlib.Core.List.{is_set as List-set}
use Rattle.std.proofs.Math.Nat.{ℕ_set}
use Rattle.std.proofs.Math.Bridge.{le_prop}

padded_prop : (size len : ℕ) (bytes : List ℕ) → IsProp (IsPadded size len bytes)
padded_prop size len bytes = hlevel (ℕ_set, List-set ℕ_set, le_prop)

-- length and array follow from the list
parts_are : (size l m : ℕ) (a b : List ℕ) → IsPadded size l a → IsPadded size m b → take l a ≡ take m b → ◌≡◌ {A = ℕ × List ℕ} (l, a) (m, b)
parts_are size l m a b p q e =
    let la : l ≡ length (take l a) = omega (arith, length-take l a, p.fits, p.size_is) in
    let lb : m ≡ length (take m b) = omega (arith, length-take m b, q.fits, q.size_is) in
    let lm : l ≡ m = la ∙ (ap length e ∙ sym lb) in
    let ab : a ≡ b =
    sym (take-append-drop l a)
    ∙ (ap (λ (xs : List ℕ). xs ++ drop l a) e ∙ (ap (λ (xs : List ℕ). take m b ++ xs) (p.zeros ∙ (ap (λ (k : ℕ). replicate (size - k) 0) lm ∙ sym q.zeros)) ∙ take-append-drop m b)) in
    ap (λ (x : ℕ). (x, a)) lm ∙ ap (λ (y : List ℕ). (m, y)) ab

sense_of_parts : (l m : ℕ) (a b : List ℕ) (p : IsPadded 252 l a) (q : IsPadded 252 m b) → ◌≡◌ {A = ℕ × List ℕ} (l, a) (m, b)
    → ◌≡◌ {A = SenseBytes} (record { len = l; bytes = a; padded = p }) (record { len = m; bytes = b; padded = q })
sense_of_parts l m a b p q e =
    subst (λ (z : ℕ × List ℕ). (r : IsPadded 252 z.0 z.1) → ◌≡◌ {A = SenseBytes} (record { len = l; bytes = a; padded = p }) (record { len = z.0; bytes = z.1; padded = r })) e
    (λ r. ap (λ (x : IsPadded 252 l a). record { len = l; bytes = a; padded = x }) (padded_prop 252 l a p r)) q

cdb_of_parts : (l m : ℕ) (a b : List ℕ) (p : IsPadded 16 l a) (q : IsPadded 16 m b) → ◌≡◌ {A = ℕ × List ℕ} (l, a) (m, b)
    → ◌≡◌ {A = CdbBytes} (record { len = l; bytes = a; padded = p }) (record { len = m; bytes = b; padded = q })
cdb_of_parts l m a b p q e =
    subst (λ (z : ℕ × List ℕ). (r : IsPadded 16 z.0 z.1) → ◌≡◌ {A = CdbBytes} (record { len = l; bytes = a; padded = p }) (record { len = z.0; bytes = z.1; padded = r })) e
    (λ r. ap (λ (x : IsPadded 16 l a). record { len = l; bytes = a; padded = x }) (padded_prop 16 l a p r)) q

pub same_sense : (a b : SenseBytes) → sense_list a ≡ sense_list b → a ≡ b
same_sense a b e = sense_of_parts a.len b.len a.bytes b.bytes a.padded b.padded (parts_are 252 a.len b.len a.bytes b.bytes a.padded b.padded e)

pub same_cdb : (a b : CdbBytes) → cdb_list a ≡ cdb_list b → a ≡ b
same_cdb a b e = cdb_of_parts a.len b.len a.bytes b.bytes a.padded b.padded (parts_are 16 a.len b.len a.bytes b.bytes a.padded b.padded e)
