-- The first claim of a side is that of the least attempt that waits for it.
use Rattle.std.proofs.Common.{◌≡◌, ℕ, zero, suc, ◌<◌, ◌≤◌, ◌+◌, Bool, true, false, ◌&&◌, ◌==◌, List, [], ◌∷◌, ◌++◌, Option, None, Some, refl, sym, ap, ◌∙◌, subst, inl, inr, arith, one-add}
use Rattle.std.specs.Prelude.{find, option_map}
use Rattle.std.specs.Option.{option_or}
use Rattle.std.proofs.lemmas.Bool.{cases_Bool, cases_lt, eqb-true}
use Rattle.std.proofs.lemmas.List.Folds.{find-append}
use Rattle.mid_base.specs.declared.names.Attempt.{Attempt}
use Rattle.mid_base.specs.declared.answers.By.{By}
use Rattle.mid_base.specs.declared.answers.By.TheVariants.{Answer as ByAnswer, Expiry as ByExpiry}
use Rattle.mid_base.specs.declared.entries.Entry.{Entry}
use Rattle.mid_base.specs.declared.entries.Entry.TheVariants.{Sent, Bounced, Owned}
use Rattle.mid_base.specs.declared.host_spec.HostSpec.{HostSpec}
use Rattle.trace_model.specs.Attempts.{attempts, sends, is_open, is_answered, is_due}
use Rattle.trace_model.specs.Claims.{claims_among, claims_of, tag_for, waiting_claims}
use Rattle.trace_model.specs.Legal.{ByGroups, EachStands}
use Rattle.trace_model.proofs.Readings.{by_places}
use Rattle.journal_laws.proofs.Numbered.{fits_all}
use Rattle.attempt_table.specs.AttemptsAgree.{countdown}
use Rattle.attempt_table.specs.Claims.{Claim, is_by, waits_for}
use Rattle.play_sched.specs.Rest.{IsFirstClaim}

one_up : (n : ℕ) → suc n ≡ n + 1
one_up n = omega arith

descends : (s : HostSpec) (P : List Entry) → EachStands s P → attempts P ≡ countdown (sends P)
descends s [] each = refl
descends s (Sent c m t ∷ P) each =
    let number : m.0 ≡ sends P + 1 = (fits_all s 0 P (Sent c m t) each).1 in
    let up : m.0 ≡ suc (sends P) = omega (arith, number) in ap (λ (n : ℕ). n ∷ attempts P) up ∙ (ap (λ (ns : List ℕ). suc (sends P) ∷ ns) (descends s P each.1) ∙ ap countdown (one_up (sends P)))
descends s (e ∷ P) each = descends s P each.1

-- an open attempt has one of the numbers 1 to that of the last one sent
open_within : (s : HostSpec) (n : ℕ) (P : List Entry) → EachStands s P → is_open n P ≡ true → (0 < n) × (n ≤ sends P)
open_within s n [] each h = absurd (cc h)
open_within s n (Sent c m t ∷ P) each h = elim (cases_Bool (m.0 == n)) [
  | inl is ↦
      let number : m.0 ≡ sends P + 1 = (fits_all s 0 P (Sent c m t) each).1 in
      let same : m.0 ≡ n = eqb-true m.0 n is in
      (omega (arith, number, same), omega (arith, number, same))
  | inr isnt ↦ let before = open_within s n P each.1 (rw isnt at h) in (before.0, omega (arith, before.1))
]
open_within s n (Bounced c m why ∷ P) each h = elim (cases_Bool (m.0 == n)) [
  | inl is ↦ absurd (let fails : false ≡ true = rw is at h in cc fails)
  | inr isnt ↦ open_within s n P each.1 (rw isnt at h)
]
open_within s n (Owned m by ∷ P) each h = elim (cases_Bool (m.0 == n)) [
  | inl is ↦ absurd (let fails : false ≡ true = rw is at h in cc fails)
  | inr isnt ↦ open_within s n P each.1 (rw isnt at h)
]
open_within s n (e ∷ P) each h = open_within s n P each.1 h

waits_open : (P : List Entry) (by : By) (n : ℕ) → waits_for P by n ≡ true → is_open n P ≡ true
waits_open P ByAnswer n h = left (is_open n P) (is_answered n P) h
  where
    left : (x y : Bool) → (x && y) ≡ true → x ≡ true
    left true y e = refl
    left false y e = absurd (cc e)
waits_open P ByExpiry n h = left (is_open n P) (is_due n P) h
  where
    left : (x y : Bool) → (x && y) ≡ true → x ≡ true
    left true y e = refl
    left false y e = absurd (cc e)

abbrev claim_if : Bool → Claim → Option Claim
claim_if true c = Some c
claim_if false c = None

found_of : (P : List Entry) (by : By) (n : ℕ) → find (is_by by) (claims_of P n) ≡ claim_if (waits_for P by n) (tag_for n P, record { 0 = n }, by)
found_of P ByAnswer n = elim (cases_Bool (is_open n P && is_answered n P)) [
  | inl passes ↦ rw passes refl
  | inr fails ↦ elim (cases_Bool (is_open n P && is_due n P)) [ inl due ↦ rw (fails, due) refl | inr in_time ↦ rw (fails, in_time) refl ]
]
found_of P ByExpiry n = elim (cases_Bool (is_open n P && is_due n P)) [
  | inl due ↦ elim (cases_Bool (is_open n P && is_answered n P)) [ inl passes ↦ rw (due, passes) refl | inr fails ↦ rw (due, fails) refl ]
  | inr in_time ↦ elim (cases_Bool (is_open n P && is_answered n P)) [ inl passes ↦ rw (in_time, passes) refl | inr fails ↦ rw (in_time, fails) refl ]
]

-- the least number up to k, but 0, that passes
abbrev IsFirstTo : ℕ → (ℕ → Bool) → Option Claim → Type 0
IsFirstTo k w None = (n : ℕ) → 0 < n → n ≤ k → w n ≡ false
IsFirstTo k w (Some c) = (w c.1.0 ≡ true) × (c.1.0 ≤ k) × ((n : ℕ) → 0 < n → n < c.1.0 → w n ≡ false)

one_more : (k : ℕ) (w : ℕ → Bool) (x : Option Claim) (c : Claim) → c.1.0 ≡ suc k → IsFirstTo k w x → IsFirstTo (suc k) w (option_or x (claim_if (w (suc k)) c))
one_more k w (Some d) c e h = (h.0, omega (arith, h.1), h.2)
one_more k w None c e h = elim (cases_Bool (w (suc k))) [
  | inl passes ↦ rw passes (subst (λ (n : ℕ). w n ≡ true) (sym e) passes, omega (arith, e), λ n pos lt. h n pos (omega (arith, lt, e)))
  | inr fails ↦ rw fails (λ n pos le. last n pos le fails)
]
  where
    last : (n : ℕ) → 0 < n → n ≤ suc k → w (suc k) ≡ false → w n ≡ false
    last n pos le fails = elim (cases_lt n (suc k)) [
      | inl lt ↦ h n pos (omega (arith, lt))
      | inr ge ↦ let same : suc k ≡ n = omega (arith, ge, le) in subst (λ (m : ℕ). w m ≡ false) same fails
    ]

first_to : (P : List Entry) (by : By) (k : ℕ) → IsFirstTo k (waits_for P by) (find (is_by by) (claims_among P (countdown k)))
first_to P by zero = λ n pos le. absurd (omega (arith, pos, le))
first_to P by (suc k) =
    subst (IsFirstTo (suc k) (waits_for P by))
    (sym (find-append (is_by by) (claims_among P (countdown k)) (claims_of P (suc k))
    ∙ ap (option_or (find (is_by by) (claims_among P (countdown k)))) (found_of P by (suc k))))
    (one_more k (waits_for P by) (find (is_by by) (claims_among P (countdown k))) (tag_for (suc k) P, record { 0 = suc k }, by) refl (first_to P by k))

at_all : (s : HostSpec) (P : List Entry) (by : By) → EachStands s P → (x : Option Claim) → IsFirstTo (sends P) (waits_for P by) x → IsFirstClaim by P (option_map (λ c. c.1) x)
at_all s P by each None h = λ n. elim (cases_Bool (waits_for P by n)) [
  | inl passes ↦ let within = open_within s n P each (waits_open P by n passes) in absurd (cc (sym (h n within.0 within.1) ∙ passes))
  | inr fails ↦ fails
]
at_all s P by each (Some c) h = (
  h.0,
  λ n lt. elim (cases_Bool (waits_for P by n)) [
    | inl passes ↦ let within = open_within s n P each (waits_open P by n passes) in absurd (cc (sym (h.2 n within.0 lt) ∙ passes))
    | inr fails ↦ fails
  ],
)

pub first_claim : (s : HostSpec) (P : List Entry) (by : By) → ByGroups s P → IsFirstClaim by P (option_map (λ c. c.1) (find (is_by by) (waiting_claims P)))
first_claim s P by legal =
    let each = (by_places s P legal).each in
    at_all s P by each (find (is_by by) (waiting_claims P))
    (subst (λ (ns : List ℕ). IsFirstTo (sends P) (waits_for P by) (find (is_by by) (claims_among P ns))) (sym (descends s P each)) (first_to P by (sends P)))
