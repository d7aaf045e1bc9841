-- The search for the least (due tick, number).
use Rattle.std.proofs.Common.{ℕ, ◌≤◌, ◌⊎◌, true, false, Option, None, Some, refl, subst, inl, inr, ⊎_elim, arith}
use Rattle.std.proofs.lemmas.Bool.Decides.{nat_tests, eqb_tells}
use Rattle.std.proofs.lemmas.Option.{same_Some}
use Rattle.adapter_tables.specs.declared.held.Held.{Held}
use Rattle.adapter_tables.specs.Held.{is_due, precedes}
use Rattle.std.proofs.Common.{◌+◌, ◌≡◌, sym, ◌∙◌, ap}
use Rattle.slab.specs.Slab.{Slab, get}
use Rattle.adapter_tables.specs.Ties.{IsLeast, IsKeptBelow}

not_yet : (at now n m : ℕ) (o : Option ℕ) → at ≤ now → is_due now o ≡ false → precedes at n o m ≡ true
not_yet at now n m None le e = refl
not_yet at now n m (Some u) le e = grind (arith, nat_tests)

itself : (at n : ℕ) → precedes at n (Some at) n ≡ true
itself at n = grind (arith, nat_tests)

through : (at n bt bn m : ℕ) (o : Option ℕ) → precedes at n (Some bt) bn ≡ true → precedes bt bn o m ≡ true → precedes at n o m ≡ true
through at n bt bn m None e f = refl
through at n bt bn m (Some u) e f = grind (arith, nat_tests)

total : (at n bt bn : ℕ) → precedes at n (Some bt) bn ≡ false → precedes bt bn (Some at) n ≡ true
total at n bt bn e = grind (arith, nat_tests)

-- one more attempt: it isn't due
pub least_not : (K : Held → Type 0) (now : ℕ) (best : Option Held) (h : Held) → is_due now h.due ≡ false → IsLeast K now best → IsLeast (λ g. K g ⊎ (h ≡ g)) now best
least_not K now None h off is = λ g i. ⊎_elim (λ old. is g old) (λ new. subst (λ (y : Held). is_due now y.due ≡ false) new off) i
least_not K now (Some b) h off is = (
  inl is.0,
  is.1,
  is.2,
  is.3,
  λ g i. ⊎_elim (λ old. is.4 g old)
      (λ new. subst (λ (y : Held). precedes is.1 b.n.0 y.due y.n.0 ≡ true) new (not_yet is.1 now b.n.0 h.n.0 h.due is.3 off)) i,
)

-- it is the first that is due
pub least_first : (K : Held → Type 0) (now at : ℕ) (h : Held) → h.due ≡ Some at → at ≤ now → IsLeast K now None → IsLeast (λ g. K g ⊎ (h ≡ g)) now (Some h)
least_first K now at h due le is = (
  inr refl,
  at,
  due,
  le,
  λ g i. ⊎_elim (λ old. not_yet at now h.n.0 g.n.0 g.due le (is g old))
      (λ new. subst (λ (y : Held). precedes at h.n.0 y.due y.n.0 ≡ true) new (rw due (itself at h.n.0))) i,
)

-- it goes before the best so far
pub least_better : (K : Held → Type 0) (now at : ℕ) (b h : Held) → h.due ≡ Some at → at ≤ now → precedes at h.n.0 b.due b.n.0 ≡ true
    → IsLeast K now (Some b) → IsLeast (λ g. K g ⊎ (h ≡ g)) now (Some h)
least_better K now at b h due le pre is = (
  inr refl,
  at,
  due,
  le,
  λ g i. ⊎_elim
      (λ old. through at h.n.0 is.1 b.n.0 g.n.0 g.due (subst (λ (o : Option ℕ). precedes at h.n.0 o b.n.0 ≡ true) is.2 pre) (is.4 g old))
      (λ new. subst (λ (y : Held). precedes at h.n.0 y.due y.n.0 ≡ true) new (rw due (itself at h.n.0))) i,
)

-- it doesn't
pub least_worse : (K : Held → Type 0) (now at : ℕ) (b h : Held) → h.due ≡ Some at → precedes at h.n.0 b.due b.n.0 ≡ false
    → IsLeast K now (Some b) → IsLeast (λ g. K g ⊎ (h ≡ g)) now (Some b)
least_worse K now at b h due pre is = (
  inl is.0,
  is.1,
  is.2,
  is.3,
  λ g i. ⊎_elim (λ old. is.4 g old)
      (λ new. subst (λ (y : Held). precedes is.1 b.n.0 y.due y.n.0 ≡ true) new (rw due (total at h.n.0 is.1 b.n.0 (subst (λ (o : Option ℕ). precedes at h.n.0 o b.n.0 ≡ false) is.2 pre)))) i,
)

-- what stands below one key more
below_from : (t : Slab Held) (k : ℕ) (h g : Held) → get t k ≡ Some h → IsKeptBelow t (k + 1) g → IsKeptBelow t k g ⊎ (h ≡ g)
below_from t k h g e i = elim (eqb_tells i.0 k) [
  | inl eq ↦ inr (same_Some h g (sym e ∙ (ap (get t) (sym eq.1) ∙ i.2)))
  | inr ne ↦ inl (i.0, omega (arith, i.1, ne.1), i.2)
]

below_to : (t : Slab Held) (k : ℕ) (h g : Held) → get t k ≡ Some h → IsKeptBelow t k g ⊎ (h ≡ g) → IsKeptBelow t (k + 1) g
below_to t k h g e (inl i) = (i.0, omega (arith, i.1), i.2)
below_to t k h g e (inr q) = (k, omega arith, e ∙ ap (λ (y : Held). Some y) q)

least_as : (K L : Held → Type 0) (now : ℕ) (best : Option Held) → ((g : Held) → K g → L g) → ((g : Held) → L g → K g) → IsLeast K now best → IsLeast L now best
least_as K L now None to from is = λ g i. is g (from g i)
least_as K L now (Some h) to from is = (to h is.0, is.1, is.2, is.3, λ g i. is.4 g (from g i))

-- one key more
pub least_more : (t : Slab Held) (k now : ℕ) (best : Option Held) (h : Held) → get t k ≡ Some h → IsLeast (λ g. IsKeptBelow t k g ⊎ (h ≡ g)) now best → IsLeast (IsKeptBelow t (k + 1)) now best
least_more t k now best h e is = least_as (λ g. IsKeptBelow t k g ⊎ (h ≡ g)) (IsKeptBelow t (k + 1)) now best (λ g i. below_to t k h g e i) (λ g i. below_from t k h g e i) is
