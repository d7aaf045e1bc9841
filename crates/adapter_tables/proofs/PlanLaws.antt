-- No plan within the limits reaches the cap.
use Rattle.std.proofs.Common.{zero, suc, ◌≡◌, ℕ, ◌-◌, ◌*◌, ◌/◌, ◌%◌, ◌^◌, ◌<◌, ◌≤◌, ◌==◌, ◌&&◌, nat_le, nat_lt, min, Bool, true, false, if◌then◌else◌, List, [], ◌∷◌, None, refl, sym, ap, ◌∙◌, inl, inr, arith}
use Rattle.std.proofs.lemmas.Bool.Decides.{leb_tells, nat_tests}
use Rattle.std.proofs.Math.Nat.{mul-le-mul_left}
use Rattle.mid_base.specs.declared.names.DevAddr.{DevAddr}
use Rattle.mid_base.specs.declared.faults.PlanEntry.{PlanEntry}
use Rattle.mid_base.specs.Address.{same_dev}
use Rattle.fault_plan.specs.declared.class.Class.{Class}
use Rattle.fault_plan.specs.Plan.{class_of, same_class, hits, planned}
use Rattle.adapter_tables.specs.Ties.{cap, PlanSmall}

far_quotient : (n e u : ℕ) → 2 ^ 39 ≤ n → 0 < e → e < 65536 → u < 65536 → u ≤ n / e
far_quotient n e u big pos small few = elim (leb_tells u (n / e)) [
  | inl le ↦ le.1
  | inr gt ↦ let m : e * (n / e) ≤ e * 65536 = mul-le-mul_left e (omega (arith, gt.1)) in
      absurd (omega (arith, m))
]

-- `hits` of an entry's three numbers
abbrev numbered : ℕ → ℕ → ℕ → ℕ → Bool
numbered first every uses nth =
    nat_le first nth
    && (if every == 0 then nth == first && nat_lt 0 uses
    else (nth - first) % every == 0 && nat_lt ((nth - first) / every) uses)

far_number : (first every uses k : ℕ) → first < 65536 → every < 65536 → uses < 65536 → cap ≤ k → numbered first every uses k ≡ false
far_number first zero uses k f v u far =
    let big : 1099511627776 ≤ k = far in
    grind (arith, nat_tests)
far_number first (suc m) uses k f v u far =
    let big : 1099511627776 ≤ k = far in
    let q : uses ≤ (k - first) / suc m = far_quotient (k - first) (suc m) uses (omega (arith, big, f)) (omega arith) v u in
    grind (arith, nat_tests)

out_of_reach : (e : PlanEntry) (k : ℕ) → e.first < 65536 → e.every < 65536 → e.uses < 65536 → cap ≤ k → hits e k ≡ false
out_of_reach e k f v u far = far_number e.first e.every e.uses k f v u far

and_false : (a b : Bool) → b ≡ false → a && b ≡ false
and_false true b q = q
and_false false b q = refl

none_far : (plan : List PlanEntry) (d : DevAddr) (class : Class) (k : ℕ) → PlanSmall plan → cap ≤ k → planned plan d class k ≡ None
none_far [] d class k small far = refl
none_far (e ∷ es) d class k small far =
    rw (and_false (same_dev e.dev d && same_class (class_of e.fault) class) (hits e k) (out_of_reach e k small.0 small.1 small.2 far)) (none_far es d class k small.3 far)

pub planned_capped : (plan : List PlanEntry) (d : DevAddr) (class : Class) (k : ℕ) → PlanSmall plan → planned plan d class (min k cap) ≡ planned plan d class k
planned_capped plan d class k small = elim (leb_tells cap k) [
  | inl le ↦ none_far plan d class (min k cap) small (omega (arith, le.1)) ∙ sym (none_far plan d class k small le.1)
  | inr gt ↦ let e : min k cap ≡ k = omega (arith, gt.1) in ap (planned plan d class) e
]
