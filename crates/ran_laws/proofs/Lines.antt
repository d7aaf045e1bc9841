-- Step lines come to one list of hosts.
use Rattle.std.proofs.Common.{◌≡◌, ℕ, zero, suc, Bool, true, false, not, ◌||◌, ◌==◌, List, [], ◌∷◌, ◌++◌, Option, Some, slice_get, slice_set, refl, sym, ap, ap₂, ◌∙◌, subst, eq-eqb}
use Rattle.std.specs.List.{list_any}
use Rattle.std.proofs.lemmas.Bool.{and_parts}
use Rattle.std.proofs.lemmas.Option.{get_or_from_slice_get}
use Rattle.std.proofs.Math.Seq.{map-set_same}
use Rattle.mid_base.specs.declared.names.HostNo.{HostNo}
use Rattle.mid_base.specs.declared.entries.Entry.{Entry}
use Rattle.mid_base.specs.declared.steps.Step.{Step}
use Rattle.mid_base.specs.declared.steps.Why.{Why}
use Rattle.mid_base.specs.declared.host_spec.HostSpec.{HostSpec}
use Rattle.script_text.specs.Playable.{differ_in_number}
use Rattle.drain_rounds.specs.Making.{Comes, HostRun}
use Rattle.play_sched.specs.Played.{ComesOn, Plays, skip_of}
use Rattle.play_sched.specs.Runs.{specs_of}
use Rattle.ran_laws.proofs.Steps.{comes_one}

or_true : (x y : Bool) → y ≡ true → x || y ≡ true
or_true true y e = refl
or_true false y e = e

first_number : (r : HostRun) (rest : Bool) (n : ℕ) → r.spec.no.0 ≡ n → (r.spec.no.0 == n) || rest ≡ true
first_number r rest n is = rw (eq-eqb r.spec.no.0 n is) refl

some_inj : {x y : HostRun} → ◌≡◌ {A = Option HostRun} (Some x) (Some y) → x ≡ y
some_inj e = cc e

-- a host at some place is among these
number_in : (runs : List HostRun) (j : ℕ) (h : HostRun) (n : ℕ) → slice_get runs j ≡ Some h → h.spec.no.0 ≡ n → list_any (λ (g : HostSpec). g.no.0 == n) (specs_of runs) ≡ true
number_in [] j h n at same = absurd (cc at)
number_in (r ∷ runs) zero h n at same = first_number r (list_any (λ (g : HostSpec). g.no.0 == n) (specs_of runs)) n (ap (λ (x : HostRun). x.spec.no.0) (some_inj at) ∙ same)
number_in (r ∷ runs) (suc j) h n at same = or_true (r.spec.no.0 == n) (list_any (λ (g : HostSpec). g.no.0 == n) (specs_of runs)) (number_in runs j h n at same)

-- where the numbers differ, that of the first host isn't among the others
twice : (r : HostRun) (runs : List HostRun) (j : ℕ) (h : HostRun) → differ_in_number (specs_of (r ∷ runs)) ≡ true → slice_get runs j ≡ Some h → h.spec.no.0 ≡ r.spec.no.0 → ⊥
twice r runs j h differ at same =
    let none : not (list_any (λ (g : HostSpec). g.no.0 == r.spec.no.0) (specs_of runs)) ≡ true =
    (and_parts (not (list_any (λ (g : HostSpec). g.no.0 == r.spec.no.0) (specs_of runs))) (differ_in_number (specs_of runs)) differ).0
    in
    let never : false ≡ true = rw (number_in runs j h r.spec.no.0 at same) at none in
    cc never

-- hosts with different numbers: one number is at one place
place_one : (runs : List HostRun) (i j : ℕ) (g h : HostRun) → differ_in_number (specs_of runs) ≡ true → slice_get runs i ≡ Some g → slice_get runs j ≡ Some h → g.spec.no.0 ≡ h.spec.no.0 → i ≡ j
place_one [] i j g h differ x y same = absurd (cc x)
place_one (r ∷ runs) zero zero g h differ x y same = refl
place_one (r ∷ runs) zero (suc j) g h differ x y same = absurd (twice r runs j h differ y (sym same ∙ sym (ap (λ (z : HostRun). z.spec.no.0) (some_inj x))))
place_one (r ∷ runs) (suc i) zero g h differ x y same = absurd (twice r runs i g differ x (same ∙ sym (ap (λ (z : HostRun). z.spec.no.0) (some_inj y))))
place_one (r ∷ runs) (suc i) (suc j) g h differ x y same = ap suc (place_one runs i j g h (and_parts (not (list_any (λ (z : HostSpec). z.no.0 == r.spec.no.0) (specs_of runs))) (differ_in_number (specs_of runs)) differ).1 x y same)

host_one : (runs : List HostRun) (i j : ℕ) (g h : HostRun) → i ≡ j → slice_get runs i ≡ Some g → slice_get runs j ≡ Some h → h ≡ g
host_one runs i j g h same x y = some_inj (sym y ∙ (ap (slice_get runs) (sym same) ∙ x))

changed_one : (old : List HostRun) (i j : ℕ) (g h : HostRun) (P Q : List Entry) → i ≡ j → h ≡ g → P ≡ Q → ◌≡◌ {A = List HostRun} (slice_set old i (record g { entries = P })) (slice_set old j (record h { entries = Q }))
changed_one old i j g h P Q place host entries =
    ap (λ (k : ℕ). slice_set old k (record g { entries = P })) place
    ∙ (ap (λ (r : HostRun). slice_set old j (record r { entries = P })) (sym host) ∙ ap (λ (R : List Entry). slice_set old j (record h { entries = R })) entries)

pub comes_on_one : (old : List HostRun) (n : ℕ) (t : Step) (why other : Option Why) (new also : List HostRun) → differ_in_number (specs_of old) ≡ true
    → ComesOn old n t why new → ComesOn old n t other also → (why ≡ other) × (new ≡ also)
comes_on_one old n t why other new also differ x y =
    let place : x.place ≡ y.place = place_one old x.place y.place x.host y.host differ x.at y.at (x.named ∙ sym y.named) in
    let host : y.host ≡ x.host = host_one old x.place y.place x.host y.host place x.at y.at in
    let one =
    comes_one x.host.spec x.host.before x.host.entries t why other x.entries y.entries x.comes
    (subst (λ (r : HostRun). Comes r.spec r.before r.entries t other y.entries) host y.comes)
    in
    (one.0, x.changed ∙ (changed_one old x.place y.place x.host y.host x.entries y.entries place host one.1 ∙ sym y.changed))

-- a step leaves the specs
kept : (old : List HostRun) (n : ℕ) (t : Step) (why : Option Why) (new : List HostRun) → ComesOn old n t why new → specs_of new ≡ specs_of old
kept old n t why new x =
    ap specs_of x.changed
    ∙ map-set_same (λ (r : HostRun). r.spec) old x.place (record x.host { entries = x.entries }) x.host (sym (ap (λ (r : HostRun). r.spec) (get_or_from_slice_get old x.place x.host x.host x.at)))

pub plays_one : (steps : List (ℕ × HostNo × Step)) (old new also : List HostRun) (skips others : List (ℕ × Why)) → differ_in_number (specs_of old) ≡ true
    → Plays steps old new skips → Plays steps old also others → (new ≡ also) × (skips ≡ others)
plays_one [] old new also skips others differ x y = (x.0 ∙ sym y.0, x.1 ∙ sym y.1)
plays_one (t ∷ steps) old new also skips others differ x y =
    let one = comes_on_one old t.1.0 t.2 x.1 y.1 x.0 y.0 differ x.3 y.3 in
    let still : differ_in_number (specs_of x.0) ≡ true = ap differ_in_number (kept old t.1.0 t.2 x.1 x.0 x.3) ∙ differ in
    let rest =
    plays_one steps x.0 new also x.2 y.2 still x.5
    (subst (λ (runs : List HostRun). Plays steps runs also y.2) (sym one.1) y.5)
    in
    (rest.0, x.4 ∙ (ap₂ (λ (w : Option Why) (ws : List (ℕ × Why)). skip_of t.0 w ++ ws) one.0 rest.1 ∙ sym y.4))
