-- An entry hits exactly the numbers first + k * every with a k below its uses.
use Rattle.std.proofs.Common.{◌≡◌, ◌/◌, ◌%◌, ℕ, suc, zero, ◌+◌, ◌-◌, ◌*◌, ◌<◌, ◌≤◌, arith}
use Rattle.std.specs.Prelude.{Bool, true, ◌==◌, ◌&&◌, nat_le, nat_lt, if◌then◌else◌, IsTrue}
use Rattle.std.proofs.lemmas.Bool.Decides.{nat_tests}
use Rattle.std.proofs.lemmas.Nat.{div-add-mod'}
use Rattle.std.proofs.Math.Nat.{mul-mod_left, mul-div_cancel, mul-zero}
use Rattle.mid_base.specs.declared.faults.PlanEntry.{PlanEntry}
use Rattle.fault_plan.specs.Plan.{hits, IsNumberOf}

-- `hits` of an entry's three numbers
abbrev numbered : ℕ → ℕ → ℕ → ℕ → Bool
numbered first every uses nth =
    nat_le first nth
    && (if every == 0 then nth == first && nat_lt 0 uses
    else (nth - first) % every == 0 && nat_lt ((nth - first) / every) uses)

to_number : (first every uses nth : ℕ) → numbered first every uses nth ≡ true → (k : ℕ) × (k < uses) × (nth ≡ first + k * every)
to_number first zero uses nth hit = (0, grind (arith, nat_tests), grind (arith, nat_tests))
to_number first (suc m) uses nth hit =
    let starts : first ≤ nth = grind (arith, nat_tests) in
    let whole : (nth - first) % suc m ≡ 0 = grind (arith, nat_tests) in
    let below : (nth - first) / suc m < uses = grind (arith, nat_tests) in
    ((nth - first) / suc m, below, omega (arith, starts, whole, div-add-mod' (nth - first) (suc m)))

from_number : (first every uses nth k : ℕ) → k < uses → nth ≡ first + k * every → numbered first every uses nth ≡ true
from_number first zero uses nth k below is =
    let same : nth ≡ first = omega (arith, is, mul-zero k) in
    grind (arith, nat_tests)
from_number first (suc m) uses nth k below is =
    let starts : first ≤ nth = omega (arith, is) in
    let past : nth - first ≡ k * suc m = omega (arith, is) in
    let whole : (nth - first) % suc m ≡ 0 = rw past (mul-mod_left k (suc m)) in
    let steps : (nth - first) / suc m ≡ k = rw past (mul-div_cancel k (omega arith)) in
    grind (arith, nat_tests)

pub hit_is_number : (e : PlanEntry) (nth : ℕ) → IsTrue (hits e nth) → IsNumberOf e nth
hit_is_number e nth hit = to_number e.first e.every e.uses nth hit

pub number_is_hit : (e : PlanEntry) (nth : ℕ) → IsNumberOf e nth → IsTrue (hits e nth)
number_is_hit e nth n = from_number e.first e.every e.uses nth n.0 n.1 n.2
