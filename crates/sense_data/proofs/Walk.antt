-- The walk over descriptors, step by step: how many steps are allowed doesn't matter.
use Rattle.std.proofs.Common.{◌≡◌, ℕ, zero, suc, ◌+◌, ◌-◌, ◌<◌, ◌≤◌, List, [], ◌∷◌, length, length-take, length-drop, Option, Some, None, true, false, cond, refl, sym, ap, ◌∙◌, arith, inl, inr}
use Rattle.std.specs.Prelude.{nat_lt, nat_le, map, is_none, slice_index, slice_range}
use Rattle.std.proofs.lemmas.Bool.{cases_lt}
use Rattle.std.proofs.lemmas.Bool.Decides.{nat_tests}
use denote.Bor.{Bor}
use Rattle.sense_data.specs.Grammar.{is_fixed, sense_end, descriptors, descriptor_end, starts_within, starts_from, first_cut, cut_fault, refusal, is_valid_sense}
use Rattle.sense_data.specs.declared.faults.SenseFault.{SenseFault}
use Rattle.sense_data.specs.Parts.{part, parts_from, descriptor_parts, bodies, Fill}

-- any number of steps that is enough gives the same
starts_enough : (n m : ℕ) (b : List ℕ) (end p : ℕ) → end - p ≤ n → end - p ≤ m → starts_within n b end p ≡ starts_within m b end p
starts_enough zero zero b end p h k = refl
starts_enough zero (suc m) b end p h k = grind (arith, nat_tests)
starts_enough (suc n) zero b end p h k = grind (arith, nat_tests)
starts_enough (suc n) (suc m) b end p h k =
    elim (cases_lt p end) [
      | inl lt ↦ ap (λ (rest : List ℕ). cond (nat_le end p) [] (p ∷ rest)) (starts_enough n m b end (descriptor_end b p) (omega arith) (omega arith))
      | inr le ↦ grind (arith, nat_tests)
    ]

pub starts_step : (b : List ℕ) (end p : ℕ) → p < end → starts_from b end p ≡ p ∷ starts_from b end (descriptor_end b p)
starts_step b end p lt =
    let n : end - p ≡ suc (end - p - 1) = omega arith in
    let e = starts_enough (end - p - 1) (end - descriptor_end b p) b end (descriptor_end b p) (omega arith) (omega arith) in
    rw (n, e) (grind (arith, nat_tests))

pub starts_end : (b : List ℕ) (end p : ℕ) → end ≤ p → starts_from b end p ≡ []
starts_end b end p le = let n : end - p ≡ 0 = omega arith in rw n refl

pub cut_step : (b : List ℕ) (end p : ℕ) → p < end → first_cut b end p ≡ cond (nat_lt end (descriptor_end b p)) (Some p) (first_cut b end (descriptor_end b p))
cut_step b end p lt = rw (starts_step b end p lt) refl

pub cut_end : (b : List ℕ) (end p : ℕ) → end ≤ p → first_cut b end p ≡ None
cut_end b end p le = rw (starts_end b end p le) refl

pub record Whole (b : List ℕ) (end p : ℕ) : Type 0 where
  pub header : p + 2 ≤ end
  pub body : descriptor_end b p ≤ end
  pub rest : first_cut b end (descriptor_end b p) ≡ None

pub whole_step : (b : List ℕ) (end p : ℕ) → p < end → first_cut b end p ≡ None → Whole b end p
whole_step b end p lt h =
    let e = sym (cut_step b end p lt) ∙ h in
    elim (cases_lt end (descriptor_end b p)) [
      | inl cut ↦ absurd (grind (arith, nat_tests, e))
      | inr body ↦ record { header = omega arith; body = body; rest = grind (arith, nat_tests, e) }
    ]

pub parts_step : (b : Bor (List ℕ)) (end p : ℕ) → p < end → parts_from b end p ≡ (slice_index b.now p, part b (p + 2) (descriptor_end b.now p)) ∷ parts_from b end (descriptor_end b.now p)
parts_step b end p lt = rw (starts_step b.now end p lt) refl

pub parts_end : (b : Bor (List ℕ)) (end p : ℕ) → end ≤ p → parts_from b end p ≡ []
parts_end b end p le = rw (starts_end b.now end p le) refl

no_cut : (o : Option ℕ) → cut_fault o ≡ None → o ≡ None
no_cut None e = refl
no_cut (Some p) e = absurd cc

-- the descriptors of valid sense data of the descriptor form are whole
pub valid_walk : (b : List ℕ) → refusal b ≡ None → is_fixed b ≡ false → first_cut b (sense_end b) 8 ≡ None
valid_walk [] e f = absurd cc
valid_walk (c ∷ rest) e f = no_cut (first_cut (c ∷ rest) (sense_end (c ∷ rest)) 8) (grind (arith, nat_tests))

bodies_at : (b : Bor (List ℕ)) (starts : List ℕ) → bodies (map (λ start. (slice_index b.now start, part b (start + 2) (descriptor_end b.now start))) starts) ≡ map (λ p. (slice_index b.now p, slice_range b.now (p + 2) (descriptor_end b.now p))) starts
bodies_at b [] = refl
bodies_at b (p ∷ starts) = ap (λ rest. (slice_index b.now p, slice_range b.now (p + 2) (descriptor_end b.now p)) ∷ rest) (bodies_at b starts)

-- what stands in the parts are the descriptors
pub bodies-parts : (b : Bor (List ℕ)) → bodies (descriptor_parts b) ≡ descriptors b.now
bodies-parts b = elim (is_fixed b.now) as (λ f. bodies (cond f [] (parts_from b (sense_end b.now) 8)) ≡ cond f [] (map (λ p. (slice_index b.now p, slice_range b.now (p + 2) (descriptor_end b.now p))) (starts_from b.now (sense_end b.now) 8))) [
  | true ↦ refl
  | false ↦ bodies_at b (starts_from b.now (sense_end b.now) 8)
]

-- whole descriptors fill their bytes
fill_within : (n : ℕ) (b : Bor (List ℕ)) (end p : ℕ) → end - p ≤ n → p ≤ end → end ≤ length b.now → first_cut b.now end p ≡ None → Fill b end p (parts_from b end p)
fill_within zero b end p few le within whole = rw (parts_end b end p (omega arith)) (omega arith)
fill_within (suc n) b end p few le within whole =
    elim (cases_lt p end) [
      | inl lt ↦
          let w = whole_step b.now end p lt whole in
          let size : length (slice_range b.now (p + 2) (descriptor_end b.now p)) ≡ slice_index b.now (p + 1) = simp (length-take, length-drop) (omega (arith, w.body)) in
          rw (parts_step b end p lt) (refl, refl, size, fill_within n b end (descriptor_end b.now p) (omega arith) w.body within w.rest)
      | inr done ↦ rw (parts_end b end p done) (omega arith)
    ]

pub valid_length : (b : List ℕ) → refusal b ≡ None → 8 ≤ length b
valid_length [] e = absurd cc
valid_length (c ∷ rest) e = grind (arith, nat_tests)

none_if : (o : Option SenseFault) → is_none o ≡ true → o ≡ None
none_if None e = refl
none_if (Some f) e = absurd cc

pub parts_fill : (b : Bor (List ℕ)) → is_valid_sense b.now ≡ true → is_fixed b.now ≡ false → Fill b (sense_end b.now) 8 (descriptor_parts b)
parts_fill b valid other =
    let e = none_if (refusal b.now) valid in
    let enough = valid_length b.now e in
    rw other (fill_within (sense_end b.now) b (sense_end b.now) 8 (omega arith) (omega arith) (omega arith) (valid_walk b.now e other))
