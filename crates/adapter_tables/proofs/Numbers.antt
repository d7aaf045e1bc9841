-- The numbers of the units of a target: not more than there are units, and each within the limits.
use Rattle.std.proofs.Common.{suc, ◌≡◌, ℕ, ◌≤◌, ◌==◌, ◌&&◌, nat_le, Bool, true, false, if◌then◌else◌, List, [], ◌∷◌, length, All, refl, sym, ap, ◌∙◌, inl, inr, arith}
use Rattle.std.specs.List.{list_all}
use Rattle.std.proofs.lemmas.Bool.Decides.{leb_tells}
use Rattle.std.proofs.lemmas.List.Elements.{All-nil, All-cons, All-tail}
use Rattle.mid_base.specs.declared.names.DevAddr.{DevAddr}
use Rattle.mid_base.specs.declared.host_spec.LunSpec.{LunSpec}
use Rattle.mid_base.specs.Limits.{is_lun, is_address, is_between}
use Rattle.adapter_tables.specs.Units.{with_number, target_luns}

one_longer : (n : ℕ) (xs : List ℕ) → length (with_number n xs) ≡ suc (length xs)
one_longer n [] = refl
one_longer n (m ∷ ms) = by (nat_le n m) (one_longer n ms)
  where
    by : (t : Bool) → length (with_number n ms) ≡ suc (length ms) → length (if t then n ∷ m ∷ ms else m ∷ with_number n ms) ≡ suc (suc (length ms))
    by true e = refl
    by false e = ap suc e

pub few_numbers : (ls : List LunSpec) (d : DevAddr) → length (target_luns ls d) ≤ length ls
few_numbers [] d = omega arith
few_numbers (l ∷ ls) d = by ((l.dev.channel == d.channel) && (l.dev.target == d.target)) (few_numbers ls d)
  where
    by : (t : Bool) → length (target_luns ls d) ≤ length ls → length (if t then with_number l.dev.lun (target_luns ls d) else target_luns ls d) ≤ suc (length ls)
    by true few = omega (arith, one_longer l.dev.lun (target_luns ls d), few)
    by false few = omega (arith, few)

all_with : (n : ℕ) (xs : List ℕ) → n ≤ 16383 → All (λ m. m ≤ 16383) xs → All (λ m. m ≤ 16383) (with_number n xs)
all_with n [] le all = All-cons (λ m. m ≤ 16383) n [] le all
all_with n (m ∷ ms) le all = by (nat_le n m) (all_with n ms le (All-tail (λ k. k ≤ 16383) m ms all))
  where
    by : (t : Bool) → All (λ k. k ≤ 16383) (with_number n ms) → All (λ k. k ≤ 16383) (if t then n ∷ m ∷ ms else m ∷ with_number n ms)
    by true rest = All-cons (λ k. k ≤ 16383) n (m ∷ ms) le all
    by false rest = All-cons (λ k. k ≤ 16383) m (with_number n ms) (all 0 m (omega arith)) rest

and_true : (a b : Bool) → a && b ≡ true → (a ≡ true) × (b ≡ true)
and_true true b e = (refl, e)
and_true false b e = absurd (cc e)

at_most : (a b : ℕ) → nat_le a b ≡ true → a ≤ b
at_most a b e = elim (leb_tells a b) [ inl le ↦ le.1 | inr gt ↦ absurd (cc (sym gt.0 ∙ e)) ]

number_small : (l : LunSpec) → is_lun l ≡ true → l.dev.lun ≤ 16383
number_small l e =
    let x = and_true (is_address l.dev && is_between 1 4294967295 l.blocks) (is_between 1 1024 l.depth) e in
    let y = and_true (is_address l.dev) (is_between 1 4294967295 l.blocks) x.0 in
    let z = and_true (nat_le l.dev.channel 15 && nat_le l.dev.target 255) (nat_le l.dev.lun 16383) y.0 in
    at_most l.dev.lun 16383 z.1

pub small_numbers : (ls : List LunSpec) (d : DevAddr) → list_all is_lun ls ≡ true → All (λ n. n ≤ 16383) (target_luns ls d)
small_numbers [] d e = All-nil (λ n. n ≤ 16383)
small_numbers (l ∷ ls) d e =
    let parts = and_true (is_lun l) (list_all is_lun ls) e in
    by ((l.dev.channel == d.channel) && (l.dev.target == d.target)) (number_small l parts.0) (small_numbers ls d parts.1)
  where
    by : (t : Bool) → l.dev.lun ≤ 16383 → All (λ n. n ≤ 16383) (target_luns ls d) → All (λ n. n ≤ 16383) (if t then with_number l.dev.lun (target_luns ls d) else target_luns ls d)
    by true le rest = all_with l.dev.lun (target_luns ls d) le rest
    by false le rest = rest
