-- What a change at one command changes of a count over the commands.
use Rattle.std.proofs.Common.{◌≡◌, ◌≢◌, ◌∙◌, sym, ap, subst, refl, ℕ, ◌+◌, ◌≤◌, ◌==◌, Bool, true, false, not, ◌||◌, List, [], ◌∷◌, arith, inl, inr}
use Rattle.std.specs.Prelude.{cond, count_by}
use Rattle.std.specs.List.{list_any, list_all}
use Rattle.std.proofs.lemmas.Bool.{cases_Bool, false≢true, eqb-true, eqb-false, and_parts, and_from, or_parts, not-true}
use Rattle.std.proofs.lemmas.List.Sums.{sum_by-cons}
use Rattle.mid_base.specs.declared.host_spec.CmdSpec.{CmdSpec}
use Rattle.mid_base.specs.Limits.{differ_in_id}
use Rattle.failure_table.specs.FailuresAgree.{once_if}

-- the commands whose ids pass the test, counted
abbrev pub passing : (ℕ → Bool) → List CmdSpec → ℕ
passing p ks = count_by (λ k. p k.id.0) ks

abbrev pub has_id : ℕ → List CmdSpec → Bool
has_id c ks = list_any (λ k. k.id.0 == c) ks

count_cons : (p : ℕ → Bool) (k : CmdSpec) (ks : List CmdSpec) → passing p (k ∷ ks) ≡ once_if (p k.id.0) + passing p ks
count_cons p k ks = sum_by-cons {X = CmdSpec} (λ j. cond (p j.id.0) 1 0) k ks

or_else : (a b : Bool) → a || b ≡ true → a ≡ false → b ≡ true
or_else true b h e = absurd (false≢true (sym e))
or_else false b h e = h

-- no command of the list is the one that changes
count_apart : (p q : ℕ → Bool) (c : ℕ) (ks : List CmdSpec) → has_id c ks ≡ false → ((d : ℕ) → d ≢ c → q d ≡ p d) → passing q ks ≡ passing p ks
count_apart p q c [] none same = refl
count_apart p q c (k ∷ ks) none same =
    let parts = or_parts (k.id.0 == c) (has_id c ks) none in
    let here : q k.id.0 ≡ p k.id.0 = same k.id.0 (eqb-false k.id.0 c parts.0) in
    let rest : passing q ks ≡ passing p ks = count_apart p q c ks parts.1 same in
    count_cons q k ks ∙ (ap (λ (b : Bool). once_if b + passing q ks) here ∙ (ap (λ (n : ℕ). once_if (p k.id.0) + n) rest ∙ sym (count_cons p k ks)))

moved_here : (old new x y m n : ℕ) → old ≡ m + x → new ≡ n + y → y ≡ x → new + m ≡ old + n
moved_here old new x y m n e f g = omega (arith, e, f, g)

moved_later : (old new x y i m n : ℕ) → old ≡ i + x → new ≡ i + y → y + m ≡ x + n → new + m ≡ old + n
moved_later old new x y i m n e f g = omega (arith, e, f, g)

-- of one command alone something else is said
pub count_moves : (p q : ℕ → Bool) (c : ℕ) (ks : List CmdSpec) → differ_in_id ks ≡ true → has_id c ks ≡ true → ((d : ℕ) → d ≢ c → q d ≡ p d)
    → passing q ks + once_if (p c) ≡ passing p ks + once_if (q c)
count_moves p q c [] ids known same = absurd (false≢true known)
count_moves p q c (k ∷ ks) ids known same =
    let differ = and_parts (not (has_id k.id.0 ks)) (differ_in_id ks) ids in
    elim (cases_Bool (k.id.0 == c)) as (λ _. passing q (k ∷ ks) + once_if (p c) ≡ passing p (k ∷ ks) + once_if (q c)) [
      | inl is ↦
          let e : k.id.0 ≡ c = eqb-true k.id.0 c is in
          let none : has_id c ks ≡ false = subst (λ (d : ℕ). has_id d ks ≡ false) e (not-true (has_id k.id.0 ks) differ.0) in
          let old : passing p (k ∷ ks) ≡ once_if (p c) + passing p ks = count_cons p k ks ∙ ap (λ (d : ℕ). once_if (p d) + passing p ks) e in
          let new : passing q (k ∷ ks) ≡ once_if (q c) + passing q ks = count_cons q k ks ∙ ap (λ (d : ℕ). once_if (q d) + passing q ks) e in
          moved_here (passing p (k ∷ ks)) (passing q (k ∷ ks)) (passing p ks) (passing q ks) (once_if (p c)) (once_if (q c)) old new (count_apart p q c ks none same)
      | inr isnt ↦
          let rest : has_id c ks ≡ true = or_else (k.id.0 == c) (has_id c ks) known isnt in
          let new : passing q (k ∷ ks) ≡ once_if (p k.id.0) + passing q ks = count_cons q k ks ∙ ap (λ (b : Bool). once_if b + passing q ks) (same k.id.0 (eqb-false k.id.0 c isnt)) in
          moved_later (passing p (k ∷ ks)) (passing q (k ∷ ks)) (passing p ks) (passing q ks) (once_if (p k.id.0)) (once_if (p c)) (once_if (q c)) (count_cons p k ks) new (count_moves p q c ks differ.1 rest same)
    ]

up : (x y : ℕ) (a b : Bool) → x + once_if a ≡ y + once_if b → a ≡ false → b ≡ true → x ≡ y + 1
up x y true b h e f = absurd (false≢true (sym e))
up x y false true h e f = omega (arith, h)
up x y false false h e f = absurd (false≢true f)

-- it comes to pass
pub count_more : (p q : ℕ → Bool) (c : ℕ) (ks : List CmdSpec) → differ_in_id ks ≡ true → has_id c ks ≡ true → ((d : ℕ) → d ≢ c → q d ≡ p d)
    → p c ≡ false → q c ≡ true → passing q ks ≡ passing p ks + 1
count_more p q c ks ids known same was is = up (passing q ks) (passing p ks) (p c) (q c) (count_moves p q c ks ids known same) was is

-- it passes no longer
pub count_less : (p q : ℕ → Bool) (c : ℕ) (ks : List CmdSpec) → differ_in_id ks ≡ true → has_id c ks ≡ true → ((d : ℕ) → d ≢ c → q d ≡ p d)
    → p c ≡ true → q c ≡ false → passing q ks + 1 ≡ passing p ks
count_less p q c ks ids known same was is = sym (up (passing p ks) (passing q ks) (q c) (p c) (sym (count_moves p q c ks ids known same)) is was)

pub count_alike : (p q : ℕ → Bool) (ks : List CmdSpec) → ((d : ℕ) → q d ≡ p d) → passing q ks ≡ passing p ks
count_alike p q [] same = refl
count_alike p q (k ∷ ks) same =
    count_cons q k ks ∙ (ap (λ (b : Bool). once_if b + passing q ks) (same k.id.0) ∙ (ap (λ (n : ℕ). once_if (p k.id.0) + n) (count_alike p q ks same) ∙ sym (count_cons p k ks)))

one_at_least : (n x y : ℕ) (b : Bool) → n ≡ once_if b + y → b ≡ true → 1 ≤ n
one_at_least n x y true h e = omega (arith, h)
one_at_least n x y false h e = absurd (false≢true e)

still_one : (n m y : ℕ) → n ≡ m + y → 1 ≤ y → 1 ≤ n
still_one n m y h e = omega (arith, h, e)

-- a command that passes is counted
pub count_some : (p : ℕ → Bool) (c : ℕ) (ks : List CmdSpec) → has_id c ks ≡ true → p c ≡ true → 1 ≤ passing p ks
count_some p c [] known is = absurd (false≢true known)
count_some p c (k ∷ ks) known is = elim (cases_Bool (k.id.0 == c)) as (λ _. 1 ≤ passing p (k ∷ ks)) [
  | inl eq ↦
      let e : k.id.0 ≡ c = eqb-true k.id.0 c eq in
      one_at_least (passing p (k ∷ ks)) 0 (passing p ks) (p k.id.0) (count_cons p k ks) (ap p e ∙ is)
  | inr isnt ↦
      still_one (passing p (k ∷ ks)) (once_if (p k.id.0)) (passing p ks) (count_cons p k ks) (count_some p c ks (or_else (k.id.0 == c) (has_id c ks) known isnt) is)
]

none_of : (n y : ℕ) (b : Bool) → n ≡ once_if b + y → b ≡ false → y ≡ 0 → n ≡ 0
none_of n y true h e f = absurd (false≢true (sym e))
none_of n y false h e f = omega (arith, h, f)

zero_parts : (n y : ℕ) (b : Bool) → n ≡ once_if b + y → n ≡ 0 → (b ≡ false) × (y ≡ 0)
zero_parts n y true h e = absurd (omega (arith, h, e))
zero_parts n y false h e = (refl, omega (arith, h, e))

pub count_none : (ks : List CmdSpec) → passing (λ d. false) ks ≡ 0
count_none [] = refl
count_none (k ∷ ks) = none_of (passing (λ d. false) (k ∷ ks)) (passing (λ d. false) ks) false (count_cons (λ d. false) k ks) refl (count_none ks)

-- where none of the commands passes p, each passes r
pub each_passes : (p r : ℕ → Bool) (ks : List CmdSpec) → ((d : ℕ) → p d ≡ false → r d ≡ true) → passing p ks ≡ 0 → list_all (λ k. r k.id.0) ks ≡ true
each_passes p r [] other none = refl
each_passes p r (k ∷ ks) other none =
    let parts = zero_parts (passing p (k ∷ ks)) (passing p ks) (p k.id.0) (count_cons p k ks) none in
    and_from (r k.id.0) (list_all (λ j. r j.id.0) ks) (other k.id.0 parts.0) (each_passes p r ks other parts.1)

pub none_passes : (p r : ℕ → Bool) (ks : List CmdSpec) → ((d : ℕ) → r d ≡ true → p d ≡ false) → list_all (λ k. r k.id.0) ks ≡ true → passing p ks ≡ 0
none_passes p r [] other each = refl
none_passes p r (k ∷ ks) other each =
    let parts = and_parts (r k.id.0) (list_all (λ j. r j.id.0) ks) each in
    none_of (passing p (k ∷ ks)) (passing p ks) (p k.id.0) (count_cons p k ks) (other k.id.0 parts.0) (none_passes p r ks other parts.1)

-- what a command of the list passes
pub at_command : (r : ℕ → Bool) (c : ℕ) (ks : List CmdSpec) → has_id c ks ≡ true → list_all (λ k. r k.id.0) ks ≡ true → r c ≡ true
at_command r c [] known each = absurd (false≢true known)
at_command r c (k ∷ ks) known each =
    let parts = and_parts (r k.id.0) (list_all (λ j. r j.id.0) ks) each in
    elim (cases_Bool (k.id.0 == c)) as (λ _. r c ≡ true) [
      | inl is ↦ subst (λ (d : ℕ). r d ≡ true) (eqb-true k.id.0 c is) parts.0
      | inr isnt ↦ at_command r c ks (or_else (k.id.0 == c) (has_id c ks) known isnt) parts.1
    ]
