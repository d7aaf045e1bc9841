-- A round, and a number of rounds, come to one journal.
use Rattle.std.proofs.Common.{◌≡◌, ℕ, zero, suc, Bool, true, false, List, refl, sym, ap, ◌∙◌, subst, inl, inr}
use Rattle.mid_base.specs.declared.entries.Entry.{Entry}
use Rattle.mid_base.specs.declared.host_spec.HostSpec.{HostSpec}
use Rattle.mid_base.specs.declared.steps.Step.TheVariants as step
use Rattle.host_template.specs.Standing.{Before}
use Rattle.drain_rounds.specs.Rounds.{Drains, PassesTime, Round, Where, is_drained, phases}
use Rattle.ran_laws.specs.Counted.{DrainsIn}
use Rattle.ran_laws.proofs.Steps.{comes_one}
use Rattle.ran_laws.proofs.Phases.{passes_one}

time_one : (drained : Bool) (s : HostSpec) (b : Before) (P Q R : List Entry) → PassesTime drained s b P Q → PassesTime drained s b P R → Q ≡ R
time_one true s b P Q R x y = x ∙ sym y
time_one false s b P Q R x y = (comes_one s b P step.Tick x.0 y.0 Q R x.1 y.1).1

pub round_one : (s : HostSpec) (b : Before) (P Q R : List Entry) → Round s b P Q → Round s b P R → Q ≡ R
round_one s b P Q R x y =
    let one : y.0 ≡ x.0 = passes_one phases s b P y.0 x.0 y.1 x.1 in
    time_one (is_drained s x.0) s b x.0 Q R x.2 (subst (λ (S : List Entry). PassesTime (is_drained s S) s b S R) one y.2)

where_one : {A B C D : Type 0} → (u : Bool) → {G : Type 0} → (A → C → G) → (B → D → G) → Where u A B → Where u C D → G
where_one true f g x y = f x y
where_one false f g x y = g x y

pub drains_one : (most : ℕ) (s : HostSpec) (b : Before) (P Q R : List Entry) → Drains most s b P Q → Drains most s b P R → Q ≡ R
drains_one zero s b P Q R x y = x ∙ sym y
drains_one (suc most) s b P Q R x y =
    where_one (is_drained s P) (λ v w. v ∙ sym w)
    (λ v w.
    let one : w.0 ≡ v.0 = round_one s b P w.0 v.0 w.1 v.1 in
    drains_one most s b v.0 Q R v.2 (subst (λ (S : List Entry). Drains most s b S R) one w.2))
    x y

-- ---- how many they are

one_more : (u : Bool) (most : ℕ) (s : HostSpec) (b : Before) (P Q : List Entry) → is_drained s P ≡ u
    → ((R : List Entry) → Drains most s b R Q → (n : ℕ) × DrainsIn n most s b R Q)
    → Where u (Q ≡ P) ((R : List Entry) × Round s b P R × Drains most s b R Q) → (n : ℕ) × DrainsIn n (suc most) s b P Q
one_more true most s b P Q e rest y = (0, (y, inr e))
one_more false most s b P Q e rest y = let later = rest y.0 y.2 in (suc later.0, (e, y.0, y.1, later.1))

pub counted : (most : ℕ) (s : HostSpec) (b : Before) (P Q : List Entry) → Drains most s b P Q → (n : ℕ) × DrainsIn n most s b P Q
counted zero s b P Q x = (0, (x, inl refl))
counted (suc most) s b P Q x = one_more (is_drained s P) most s b P Q refl (λ R. counted most s b R Q) x

ended : (n most : ℕ) (s : HostSpec) (b : Before) (P Q R : List Entry) → DrainsIn 0 most s b P Q → DrainsIn (suc n) most s b P R → ⊥
ended n zero s b P Q R x y = y
ended n (suc most) s b P Q R (same, inl e) y = cc e
ended n (suc most) s b P Q R (same, inr e) y = cc (sym e ∙ y.0)

pub count_one : (n m most : ℕ) (s : HostSpec) (b : Before) (P Q R : List Entry) → DrainsIn n most s b P Q → DrainsIn m most s b P R → n ≡ m
count_one zero zero most s b P Q R x y = refl
count_one zero (suc m) most s b P Q R x y = absurd (ended m most s b P Q R x y)
count_one (suc n) zero most s b P Q R x y = absurd (ended n most s b P R Q y x)
count_one (suc n) (suc m) zero s b P Q R x y = absurd x
count_one (suc n) (suc m) (suc most) s b P Q R x y =
    let one : y.1 ≡ x.1 = round_one s b P y.1 x.1 y.2 x.2 in
    ap suc (count_one n m most s b x.1 Q R x.3 (subst (λ (S : List Entry). DrainsIn m most s b S R) one y.3))
