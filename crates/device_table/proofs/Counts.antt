-- What a change of one command's standing changes of counts and searches over the commands.
use Rattle.std.proofs.Common.{◌≡◌, ◌∙◌, sym, ap, subst, refl, ℕ, zero, suc, ◌+◌, ◌==◌, Bool, true, false, not, ◌||◌, cond, List, [], ◌∷◌, None, Some, arith}
use Rattle.std.specs.Prelude.{find, slice_get, count_by}
use Rattle.std.specs.List.{list_any}
use Rattle.std.proofs.lemmas.Bool.{false≢true, eq-eqb, ne_eqb, and_parts, not-true}
use Rattle.std.proofs.lemmas.List.Sums.{sum_by-cons}
use Rattle.std.proofs.lemmas.Option.{same_Some, none-some}
use Rattle.mid_base.specs.declared.host_spec.CmdSpec.{CmdSpec}
use Rattle.mid_base.specs.Limits.{differ_in_id}

-- no command of the list has the id c
abbrev pub IsAbsent : ℕ → List CmdSpec → Type 0
IsAbsent c ks = list_any (λ j. j.id.0 == c) ks ≡ false

or_first : (a b : Bool) → a || b ≡ false → a ≡ false
or_first true b h = absurd (false≢true (sym h))
or_first false b h = refl

or_rest : (a b : Bool) → a || b ≡ false → b ≡ false
or_rest true b h = absurd (false≢true (sym h))
or_rest false b h = h

-- commands that all answer alike are counted and found alike
pub count_same : (p q : CmdSpec → Bool) (c : ℕ) (ks : List CmdSpec) → IsAbsent c ks → ((k : CmdSpec) → (k.id.0 == c) ≡ false → p k ≡ q k) → count_by p ks ≡ count_by q ks
count_same p q c [] none h = refl
count_same p q c (k ∷ ks) none h =
    let here : p k ≡ q k = h k (or_first (k.id.0 == c) (list_any (λ j. j.id.0 == c) ks) none) in
    let rest : count_by p ks ≡ count_by q ks = count_same p q c ks (or_rest (k.id.0 == c) (list_any (λ j. j.id.0 == c) ks) none) h in
    sum_by-cons {X = CmdSpec} (λ j. cond (p j) 1 0) k ks
    ∙ ap (λ (b : Bool). cond {A = ℕ} b 1 0 + count_by p ks) here
    ∙ ap (λ (n : ℕ). cond {A = ℕ} (q k) 1 0 + n) rest
    ∙ sym (sum_by-cons {X = CmdSpec} (λ j. cond (q j) 1 0) k ks)

differ_here : (k : CmdSpec) (ks : List CmdSpec) → differ_in_id (k ∷ ks) ≡ true → IsAbsent k.id.0 ks
differ_here k ks h = not-true (list_any (λ j. j.id.0 == k.id.0) ks) (and_parts (not (list_any (λ j. j.id.0 == k.id.0) ks)) (differ_in_id ks) h).0

differ_rest : (k : CmdSpec) (ks : List CmdSpec) → differ_in_id (k ∷ ks) ≡ true → differ_in_id ks ≡ true
differ_rest k ks h = (and_parts (not (list_any (λ j. j.id.0 == k.id.0) ks)) (differ_in_id ks) h).1

absent_at : (c : ℕ) (ks : List CmdSpec) → IsAbsent c ks → (i : ℕ) (k : CmdSpec) → slice_get ks i ≡ Some k → (k.id.0 == c) ≡ false
absent_at c [] none i k at = absurd (none-some k at)
absent_at c (j ∷ ks) none zero k at =
    ap (λ (x : CmdSpec). x.id.0 == c) (sym (same_Some j k at)) ∙ or_first (j.id.0 == c) (list_any (λ x. x.id.0 == c) ks) none
absent_at c (j ∷ ks) none (suc i) k at = absent_at c ks (or_rest (j.id.0 == c) (list_any (λ x. x.id.0 == c) ks) none) i k at

-- one command answers otherwise: both counts differ by what it answers
pub count_one : (p q : CmdSpec → Bool) (ks : List CmdSpec) → differ_in_id ks ≡ true → (i : ℕ) (k : CmdSpec) → slice_get ks i ≡ Some k
    → ((j : CmdSpec) → (j.id.0 == k.id.0) ≡ false → p j ≡ q j)
    → count_by p ks + cond (q k) 1 0 ≡ count_by q ks + cond (p k) 1 0
count_one p q [] ids i k at h = absurd (none-some k at)
count_one p q (j ∷ ks) ids zero k at h =
    let same : j ≡ k = same_Some j k at in
    let rest : count_by p ks ≡ count_by q ks = count_same p q j.id.0 ks (differ_here j ks ids) (λ x apart. h x (subst (λ (y : CmdSpec). (x.id.0 == y.id.0) ≡ false) same apart)) in
    let one : count_by p (j ∷ ks) ≡ cond {A = ℕ} (p k) 1 0 + count_by p ks = sum_by-cons {X = CmdSpec} (λ x. cond (p x) 1 0) j ks ∙ ap (λ (x : CmdSpec). cond {A = ℕ} (p x) 1 0 + count_by p ks) same in
    let other : count_by q (j ∷ ks) ≡ cond {A = ℕ} (q k) 1 0 + count_by q ks = sum_by-cons {X = CmdSpec} (λ x. cond (q x) 1 0) j ks ∙ ap (λ (x : CmdSpec). cond {A = ℕ} (q x) 1 0 + count_by q ks) same in
    swap (count_by p (j ∷ ks)) (count_by q (j ∷ ks)) (count_by p ks) (count_by q ks) (cond (p k) 1 0) (cond (q k) 1 0) one other rest
  where
    swap : (a b x y m n : ℕ) → a ≡ m + x → b ≡ n + y → x ≡ y → a + n ≡ b + m
    swap a b x y m n e f g = omega (arith, e, f, g)
count_one p q (j ∷ ks) ids (suc i) k at h =
    let apart : (k.id.0 == j.id.0) ≡ false = absent_at j.id.0 ks (differ_here j ks ids) i k at in
    let other : (j.id.0 == k.id.0) ≡ false = ne_eqb j.id.0 k.id.0 (λ e. false≢true (sym apart ∙ eq-eqb k.id.0 j.id.0 (sym e))) in
    let same : p j ≡ q j = h j other in
    let rest : count_by p ks + cond (q k) 1 0 ≡ count_by q ks + cond (p k) 1 0 = count_one p q ks (differ_rest j ks ids) i k at h in
    let one : count_by p (j ∷ ks) ≡ cond {A = ℕ} (q j) 1 0 + count_by p ks = sum_by-cons {X = CmdSpec} (λ x. cond (p x) 1 0) j ks ∙ ap (λ (b : Bool). cond {A = ℕ} b 1 0 + count_by p ks) same in
    let more : count_by q (j ∷ ks) ≡ cond {A = ℕ} (q j) 1 0 + count_by q ks = sum_by-cons {X = CmdSpec} (λ x. cond (q x) 1 0) j ks in
    step (count_by p (j ∷ ks)) (count_by q (j ∷ ks)) (count_by p ks) (count_by q ks) (cond (q j) 1 0) (cond (q k) 1 0) (cond (p k) 1 0) one more rest
  where
    step : (a b x y m n u : ℕ) → a ≡ m + x → b ≡ m + y → x + n ≡ y + u → a + n ≡ b + u
    step a b x y m n u e f g = omega (arith, e, f, g)

-- a search that one command alone answers
pub find_one : (p : CmdSpec → Bool) (ks : List CmdSpec) → differ_in_id ks ≡ true → (i : ℕ) (k : CmdSpec) → slice_get ks i ≡ Some k
    → ((m : ℕ) (j : CmdSpec) → slice_get ks m ≡ Some j → (j.id.0 == k.id.0) ≡ false → p j ≡ false) → p k ≡ true → find p ks ≡ Some k
find_one p [] ids i k at h is = absurd (none-some k at)
find_one p (j ∷ ks) ids zero k at h is =
    let same : j ≡ k = same_Some j k at in
    let here : p j ≡ true = ap p same ∙ is in
    rw here (ap Some same)
find_one p (j ∷ ks) ids (suc i) k at h is =
    let apart : (k.id.0 == j.id.0) ≡ false = absent_at j.id.0 ks (differ_here j ks ids) i k at in
    let other : (j.id.0 == k.id.0) ≡ false = ne_eqb j.id.0 k.id.0 (λ e. false≢true (sym apart ∙ eq-eqb k.id.0 j.id.0 (sym e))) in
    rw (h 0 j refl other) (find_one p ks (differ_rest j ks ids) i k at (λ m x get. h (suc m) x get) is)

pub find_alike : (p q : CmdSpec → Bool) (ks : List CmdSpec) → ((i : ℕ) (k : CmdSpec) → slice_get ks i ≡ Some k → p k ≡ q k) → find p ks ≡ find q ks
find_alike p q [] h = refl
find_alike p q (k ∷ ks) h = rw (h 0 k refl, find_alike p q ks (λ i j at. h (suc i) j at)) refl

pub find_none : (p : CmdSpec → Bool) (ks : List CmdSpec) → ((i : ℕ) (k : CmdSpec) → slice_get ks i ≡ Some k → p k ≡ false) → find p ks ≡ None
find_none p [] h = refl
find_none p (k ∷ ks) h = rw (h 0 k refl) (find_none p ks (λ i j at. h (suc i) j at))

pub count_alike : (p q : CmdSpec → Bool) (ks : List CmdSpec) → ((k : CmdSpec) → p k ≡ q k) → count_by p ks ≡ count_by q ks
count_alike p q [] h = refl
count_alike p q (k ∷ ks) h =
    sum_by-cons {X = CmdSpec} (λ j. cond (p j) 1 0) k ks
    ∙ ap (λ (b : Bool). cond {A = ℕ} b 1 0 + count_by p ks) (h k)
    ∙ ap (λ (n : ℕ). cond {A = ℕ} (q k) 1 0 + n) (count_alike p q ks h)
    ∙ sym (sum_by-cons {X = CmdSpec} (λ j. cond (q j) 1 0) k ks)
