-- Which attempts a journal names.
use Rattle.std.proofs.Common.{◌≡◌, ℕ, zero, suc, ◌≤◌, ◌<◌, ◌+◌, true, false, not, ◌&&◌, ◌==◌, List, [], ◌∷◌, Option, None, Some, is_some, max, refl, sym, ap, ◌∙◌, subst, inl, inr, arith}
use Rattle.std.specs.Prelude.{pred, nat_lt}
use Rattle.std.proofs.lemmas.Bool.{cases_Bool, eqb-true, ltb-true, lt-ltb}
use Rattle.mid_base.specs.declared.answers.By.{By}
use Rattle.mid_base.specs.declared.answers.By.TheVariants.{Answer as ByAnswer, Expiry as ByExpiry}
use Rattle.mid_base.specs.declared.entries.Entry.{Entry}
use Rattle.mid_base.specs.declared.entries.Entry.TheVariants.{Sent, Bounced, Ready, Owned, Late, Sensed}
use Rattle.trace_model.specs.Attempts.{answer, is_open, is_wanted, late, owner}
use Rattle.drain_rounds.specs.Rounds.{last_named}

here : (n m k : ℕ) → (m == n) ≡ true → n ≤ max m k
here n m k e = let same : m ≡ n = eqb-true m n e in grind (arith, same)

behind : (n m k : ℕ) → n ≤ k → n ≤ max m k
behind n m k le = grind (arith, le)

pub open_named : (n : ℕ) (P : List Entry) → is_open n P ≡ true → n ≤ last_named P
open_named n [] h = absurd (cc h)
open_named n (Sent c m t ∷ P) h = elim (cases_Bool (m.0 == n)) [
  | inl is ↦ here n m.0 (last_named P) is
  | inr isnt ↦ behind n m.0 (last_named P) (open_named n P (rw isnt at h))
]
open_named n (Bounced c m why ∷ P) h = elim (cases_Bool (m.0 == n)) [
  | inl is ↦ absurd (let no : false ≡ true = rw is at h in cc no)
  | inr isnt ↦ open_named n P (rw isnt at h)
]
open_named n (Ready m a ∷ P) h = behind n m.0 (last_named P) (open_named n P h)
open_named n (Owned m by ∷ P) h = elim (cases_Bool (m.0 == n)) [
  | inl is ↦ absurd (let no : false ≡ true = rw is at h in cc no)
  | inr isnt ↦ behind n m.0 (last_named P) (open_named n P (rw isnt at h))
]
open_named n (e ∷ P) h = open_named n P h

pub owned_named : (n : ℕ) (P : List Entry) → is_some (owner n P) ≡ true → n ≤ last_named P
owned_named n [] h = absurd (cc h)
owned_named n (Sent c m t ∷ P) h = behind n m.0 (last_named P) (owned_named n P h)
owned_named n (Ready m a ∷ P) h = behind n m.0 (last_named P) (owned_named n P h)
owned_named n (Owned m by ∷ P) h = elim (cases_Bool (m.0 == n)) [
  | inl is ↦ here n m.0 (last_named P) is
  | inr isnt ↦ behind n m.0 (last_named P) (owned_named n P (rw isnt at h))
]
owned_named n (e ∷ P) h = owned_named n P h

smaller : (n k : ℕ) → nat_lt 0 (pred n) ≡ true → nat_lt 0 n ≡ true
smaller n k h = lt-ltb 0 n (omega (arith, ltb-true 0 (pred n) h))

pub late_named : (n : ℕ) (P : List Entry) → nat_lt 0 (late n P) ≡ true → n ≤ last_named P
late_named n [] h = absurd (cc h)
late_named n (Sent c m t ∷ P) h = behind n m.0 (last_named P) (late_named n P h)
late_named n (Ready m a ∷ P) h = elim (cases_Bool (m.0 == n)) [
  | inl is ↦ here n m.0 (last_named P) is
  | inr isnt ↦ behind n m.0 (last_named P) (late_named n P (rw isnt at h))
]
late_named n (Owned m ByExpiry ∷ P) h = elim (cases_Bool (m.0 == n)) [
  | inl is ↦ here n m.0 (last_named P) is
  | inr isnt ↦ behind n m.0 (last_named P) (late_named n P (rw isnt at h))
]
late_named n (Owned m ByAnswer ∷ P) h = behind n m.0 (last_named P) (late_named n P h)
late_named n (Late m ∷ P) h = elim (cases_Bool (m.0 == n)) [
  | inl is ↦ late_named n P (smaller (late n P) 0 (rw is at h))
  | inr isnt ↦ late_named n P (rw isnt at h)
]
late_named n (e ∷ P) h = late_named n P h
