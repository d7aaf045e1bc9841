-- Targets in address order, each once.
use Rattle.std.proofs.Common.{◌≡◌, ℕ, zero, suc, ◌<◌, true, false, ◌&&◌, ◌==◌, List, [], ◌∷◌, ◌++◌, map, take, get_or, length, refl, sym, ap, ◌∙◌, inl, inr, arith}
use Rattle.std.proofs.lemmas.Bool.{cases_Bool}
use Rattle.std.proofs.lemmas.Bool.Decides.{nat_tests}
use Rattle.mid_base.specs.declared.names.DevAddr.{DevAddr}
use Rattle.mid_base.specs.declared.host_spec.HostSpec.{HostSpec}
use Rattle.mid_base.specs.Address.{same_dev}
use Rattle.host_template.specs.Standing.{Before}
use Rattle.host_scan.specs.declared.target.Target.{Target}
use Rattle.host_scan.specs.declared.finding.Finding.{Finding}
use Rattle.host_scan.specs.Targets.{comes_before, same_target, target_of, targets_of, with_target, zero_of}
use Rattle.host_scan.specs.Found.{probes_of}
use Rattle.host_scan.specs.Findings.{finding_of, is_listed, told}

abbrev pub AllAfter : Target → List Target → Type 0
AllAfter t [] = Unit {0}
AllAfter t (u ∷ us) = (comes_before t u ≡ true) × AllAfter t us

abbrev pub Ascends : List Target → Type 0
Ascends [] = Unit {0}
Ascends (t ∷ ts) = AllAfter t ts × Ascends ts

further : (t u v : Target) → comes_before t u ≡ true → comes_before u v ≡ true → comes_before t v ≡ true
further t u v e f = grind (arith, nat_tests, e, f)

other_way : (t u : Target) → same_target t u ≡ false → comes_before t u ≡ false → comes_before u t ≡ true
other_way t u e f = grind (arith, nat_tests, e, f)

all_after : (t u : Target) (us : List Target) → comes_before t u ≡ true → AllAfter u us → AllAfter t us
all_after t u [] e all = tt
all_after t u (v ∷ us) e all = (further t u v e all.0, all_after t u us e all.1)

with_after : (t d : Target) (us : List Target) → comes_before t d ≡ true → AllAfter t us → AllAfter t (with_target d us)
with_after t d [] e all = (e, tt)
with_after t d (u ∷ us) e all = elim (cases_Bool (same_target d u)) [
  | inl same ↦ rw same all
  | inr other ↦ elim (cases_Bool (comes_before d u)) [
    | inl less ↦ rw (other, less) (e, all)
    | inr more ↦ rw (other, more) (all.0, with_after t d us e all.1)
  ]
]

with_ascends : (d : Target) (us : List Target) → Ascends us → Ascends (with_target d us)
with_ascends d [] a = (tt, tt)
with_ascends d (u ∷ us) a = elim (cases_Bool (same_target d u)) [
  | inl same ↦ rw same a
  | inr other ↦ elim (cases_Bool (comes_before d u)) [
    | inl less ↦ rw (other, less) ((less, all_after d u us less a.0), a)
    | inr more ↦ rw (other, more) (with_after u d us (other_way d u other more) a.0, with_ascends d us a.1)
  ]
]

pub targets_ascend : (ds : List DevAddr) → Ascends (targets_of ds)
targets_ascend [] = tt
targets_ascend (d ∷ ds) = with_ascends (target_of d) (targets_of ds) (targets_ascend ds)

-- ---- a later target isn't among those before it

differs : (t u : Target) → comes_before t u ≡ true → same_dev (zero_of t) (zero_of u) ≡ false
differs t u e = grind (arith, nat_tests, e)

after_at : (t : Target) (us : List Target) (i : ℕ) (d : Target) → AllAfter t us → i < length us → comes_before t (get_or us i d) ≡ true
after_at t [] i d all lt = absurd (omega (arith, lt))
after_at t (u ∷ us) zero d all lt = all.0
after_at t (u ∷ us) (suc i) d all lt = after_at t us i d all.1 (omega (arith, lt))

abbrev pub before_of : HostSpec → List Target → Before
before_of s ts = map (λ t. (zero_of t, probes_of s t)) ts

pub unlisted : (s : HostSpec) (ts : List Target) (i : ℕ) (d : Target) → Ascends ts → i < length ts → is_listed (before_of s (take i ts)) (zero_of (get_or ts i d)) ≡ false
unlisted s [] i d a lt = absurd (omega (arith, lt))
unlisted s (t ∷ ts) zero d a lt = refl
unlisted s (t ∷ ts) (suc i) d a lt = rw (differs t (get_or ts i d) (after_at t ts i d a.0 (omega (arith, lt)))) (unlisted s ts i d a.1 (omega (arith, lt)))

pub all_told : (s : HostSpec) (ts : List Target) → map told (map (finding_of s) ts) ≡ before_of s ts
all_told s [] = refl
all_told s (t ∷ ts) = ap (λ (b : Before). (zero_of t, probes_of s t) ∷ b) (all_told s ts)
