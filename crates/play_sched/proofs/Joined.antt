-- The phases of a round, one after the other, and rounds.
use Rattle.std.proofs.Common.{◌≡◌, ℕ, zero, suc, ◌+◌, ◌-◌, ◌≤◌, Bool, true, false, List, [], ◌∷◌, ◌++◌, None, refl, sym, ap, ◌∙◌, subst, arith}
use Rattle.mid_base.specs.declared.entries.Entry.{Entry}
use Rattle.mid_base.specs.declared.host_spec.HostSpec.{HostSpec}
use Rattle.host_template.specs.Standing.{Before}
use Rattle.drain_rounds.specs.Making.{HostRun}
use Rattle.drain_rounds.specs.Rounds.{Drains, Exhausts, Passes, PassesTime, Phase, Round, Where, first_stopped, hand_in, is_drained, named, wake}
use Rattle.play_sched.specs.declared.rounds.Rest.{Rest}
use Rattle.play_sched.specs.Phases.{IsAtRest, first_phases, last_phases, middle_phases}
use Rattle.play_sched.specs.Rest.{GoesOn, IsAwake, IsHandedInBelow}
use Rattle.play_sched.proofs.Lanes.{lanes_done}
use Rattle.play_sched.proofs.Walk.{walk_ends}

to_first : (R : HostSpec → Before → Type 0) (s t : HostSpec) (b d : Before) → s ≡ t → b ≡ d → R s b → R t d
to_first R s t b d e g h = subst (λ (x : HostSpec). R x d) e (subst (λ (x : Before). R s x) g h)

-- a phase, and then others
pub passes_more : (f : Phase) (fs : List Phase) (a b c : HostRun) → GoesOn a b → Exhausts f a.spec a.before a.entries b.entries
    → Passes fs b.spec b.before b.entries c.entries → Passes (f ∷ fs) a.spec a.before a.entries c.entries
passes_more f fs a b c g made rest =
    (b.entries, made, to_first (λ s d. Passes fs s d b.entries c.entries) b.spec a.spec b.before a.before g.spec g.before rest)

pub passes_last : (f : Phase) (a b : HostRun) → Exhausts f a.spec a.before a.entries b.entries → Passes (f ∷ []) a.spec a.before a.entries b.entries
passes_last f a b made = (b.entries, made, refl)

passes_join : (fs gs : List Phase) (s : HostSpec) (b : Before) (P Q R : List Entry) → Passes fs s b P Q → Passes gs s b Q R → Passes (fs ++ gs) s b P R
passes_join [] gs s b P Q R h k = subst (λ (X : List Entry). Passes gs s b X R) h k
passes_join (f ∷ fs) gs s b P Q R h k = (h.0, h.1, passes_join fs gs s b h.0 Q R h.2 k)

-- the parts of a round
pub round_of : (a b c d e : HostRun) → GoesOn a b → GoesOn a c → GoesOn a d
    → Passes first_phases a.spec a.before a.entries b.entries → Passes middle_phases b.spec b.before b.entries c.entries
    → Passes last_phases c.spec c.before c.entries d.entries → PassesTime (is_drained d.spec d.entries) d.spec d.before d.entries e.entries
    → Round a.spec a.before a.entries e.entries
round_of a b c d e g h k first middle last time =
    let second = to_first (λ s x. Passes middle_phases s x b.entries c.entries) b.spec a.spec b.before a.before g.spec g.before middle in
    let third = to_first (λ s x. Passes last_phases s x c.entries d.entries) c.spec a.spec c.before a.before h.spec h.before last in (
      d.entries,
      passes_join first_phases (middle_phases ++ last_phases) a.spec a.before a.entries b.entries d.entries first
          (passes_join middle_phases last_phases a.spec a.before b.entries c.entries d.entries second third),
      to_first (λ s x. PassesTime (is_drained s d.entries) s x d.entries e.entries) d.spec a.spec d.before a.before k.spec k.before time,
    )

-- whatever rounds the host is run on for from here, it was run on for so many more from the start
abbrev pub Follows : ℕ → HostRun → HostRun → Type 0
Follows made a b = (most : ℕ) (Q : List Entry) → Drains most a.spec a.before b.entries Q → Drains (most + made) a.spec a.before a.entries Q

pub follows_none : (a : HostRun) → Follows 0 a a
follows_none a = λ most Q h. subst (λ (n : ℕ). Drains n a.spec a.before a.entries Q) (none_more most) h
  where
    none_more : (n : ℕ) → n ≡ n + 0
    none_more n = omega arith

pub follows_more : (made : ℕ) (a b c : HostRun) → GoesOn a b → Follows made a b → is_drained b.spec b.entries ≡ false → Round b.spec b.before b.entries c.entries
    → Follows (made + 1) a c
follows_more made a b c g h undone round = λ most Q rest.
    subst (λ (n : ℕ). Drains n a.spec a.before a.entries Q) (count most made)
    (h (suc most) Q (subst (λ (x : Bool). Where x (Q ≡ b.entries) ((R : List Entry) × Round a.spec a.before b.entries R × Drains most a.spec a.before R Q)) (sym undrained)
    (c.entries, to_first (λ s x. Round s x b.entries c.entries) b.spec a.spec b.before a.before g.spec g.before round, rest)))
  where
    undrained : is_drained a.spec b.entries ≡ false
    undrained = subst (λ (s : HostSpec). is_drained s b.entries ≡ false) g.spec undone

    count : (n m : ℕ) → suc n + m ≡ n + (m + 1)
    count n m = omega arith

-- it is drained, and no further round is made
pub follows_drained : (made most : ℕ) (a b : HostRun) → GoesOn a b → Follows made a b → made ≤ most → is_drained b.spec b.entries ≡ true
    → Drains most a.spec a.before a.entries b.entries
follows_drained made most a b g h le drained =
    subst (λ (n : ℕ). Drains n a.spec a.before a.entries b.entries) (left most made le) (h (most - made) b.entries (here (most - made)))
  where
    is : is_drained a.spec b.entries ≡ true
    is = subst (λ (s : HostSpec). is_drained s b.entries ≡ true) g.spec drained

    here : (n : ℕ) → Drains n a.spec a.before b.entries b.entries
    here zero = refl
    here (suc n) = subst (λ (x : Bool). Where x (b.entries ≡ b.entries) ((R : List Entry) × Round a.spec a.before b.entries R × Drains n a.spec a.before R b.entries)) (sym is) refl

    left : (n m : ℕ) → m ≤ n → n - m + m ≡ n
    left n m l = omega (arith, l)

-- all rounds are made
pub follows_all : (made : ℕ) (a b : HostRun) → Follows made a b → Drains made a.spec a.before a.entries b.entries
follows_all made a b h = subst (λ (n : ℕ). Drains n a.spec a.before a.entries b.entries) (none_first made) (h 0 b.entries refl)
  where
    none_first : (n : ℕ) → 0 + n ≡ n
    none_first n = omega arith

none_named : (s : HostSpec) (due : Bool) (P : List Entry) → first_stopped s P s.luns ≡ None → named wake s due P ≡ None
none_named s due P h = rw h refl

-- where no device is stopped, none is woken
pub awake_ends : (a : HostRun) → IsAwake a.spec a.entries → Exhausts wake a.spec a.before a.entries a.entries
awake_ends a h = walk_ends wake a.spec a.before a.entries (λ due is. none_named a.spec due a.entries h)

pub handed_ends : (a : HostRun) → IsHandedInBelow 64 a.spec a.entries → Exhausts hand_in a.spec a.before a.entries a.entries
handed_ends a h = walk_ends hand_in a.spec a.before a.entries (lanes_done a h)

-- what is at rest stays so
pub rests_on : (rest : Rest) (a b : HostRun) → GoesOn a b → IsAtRest rest a → IsAtRest rest b
rests_on rest a b g h = (λ e. g.handed 64 (h.0 e), λ e. g.awake (h.1 e))
