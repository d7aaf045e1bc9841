-- Lines hit no number out of their bounds.
use Rattle.std.proofs.Common.{◌≡◌, ℕ, ◌+◌, ◌-◌, ◌*◌, ◌^◌, ◌<◌, ◌≤◌, ◌⊎◌, inl, inr, Bool, true, false, List, [], ◌∷◌, ◌++◌, length, take, get_or, None, refl, sym, ap, ◌∙◌, arith}
use Rattle.std.specs.Prelude.{◌&&◌, nat_le, min, max}
use Rattle.std.specs.List.{list_all}
use Rattle.std.proofs.lemmas.Bool.{cases_Bool, and_from, and_parts}
use Rattle.std.proofs.lemmas.Bool.Decides.{nat_tests}
use Rattle.std.proofs.lemmas.List.{take_more}
use Rattle.std.proofs.lemmas.List.Folds.{list_all-append}
use Rattle.std.proofs.lemmas.Grind.{common_steps}
use Rattle.std.proofs.lemmas.Nat.{mul-le}
use Rattle.std.specs.Ordering.{nat_cmp, ord_max}
use Rattle.mid_base.specs.declared.names.DevAddr.{DevAddr}
use Rattle.mid_base.specs.declared.faults.PlanEntry.{PlanEntry}
use Rattle.mid_base.specs.Address.{same_dev}
use Rattle.fault_plan.specs.declared.class.Class.{Class}
use Rattle.fault_plan.specs.Bounds.{is_between, most_of}
use Rattle.fault_plan.specs.Plan.{class_of, same_class, hits, planned}
use Rattle.fault_plan.proofs.Numbers.{hit_is_number}

-- of numbers with 32 bits
pub product_small : (uses every : ℕ) → uses < 4294967296 → every < 4294967296 → uses * every ≤ 18446744065119617025
product_small uses every p q = mul-le uses every 4294967295 4294967295 (omega arith) (omega arith)

-- an entry that hits a number has it between its bounds
hits_between : (e : PlanEntry) (nth : ℕ) → hits e nth ≡ true → (e.first ≤ nth) × (nth ≤ most_of e)
hits_between e nth hit =
    let is = hit_is_number e nth hit in
    let below : is.0 < e.uses = is.1 in
    let here : nth ≡ e.first + is.0 * e.every = is.2 in
    let far : is.0 * e.every ≤ e.uses * e.every = mul-le is.0 e.every e.uses e.every (omega (arith, below)) (omega arith) in
    (omega (arith, here), omega (arith, here, far))

not_outside : (least most nth : ℕ) (e : PlanEntry) → is_between least most e ≡ true → (nth < least) ⊎ (most < nth) → hits e nth ≡ true → ⊥
not_outside least most nth e is out hit =
    let b = hits_between e nth hit in
    let from : e.first ≤ nth = b.0 in
    let to : nth ≤ most_of e = b.1 in
    let bounds = and_parts (nat_le least e.first) (nat_le (most_of e) most) is in
    let low : least ≤ e.first = grind (arith, nat_tests, bounds.0) in
    let high : most_of e ≤ most = grind (arith, nat_tests, bounds.1) in
    elim out [ inl lt ↦ omega (arith, lt, low, from) | inr gt ↦ omega (arith, gt, high, to) ]

none_hit : (b : Bool) → (b ≡ true → ⊥) → b ≡ false
none_hit true h = absurd (h refl)
none_hit false h = refl

and_false : (a b : Bool) → b ≡ false → a && b ≡ false
and_false true b q = q
and_false false b q = refl

-- outside of its bounds no line is hit
pub outside : (least most nth : ℕ) (dev : DevAddr) (class : Class) (es : List PlanEntry) → list_all (is_between least most) es ≡ true → (nth < least) ⊎ (most < nth) → planned es dev class nth ≡ None
outside least most nth dev class [] all out = refl
outside least most nth dev class (e ∷ es) all out =
    let parts = and_parts (is_between least most e) (list_all (is_between least most) es) all in
    let off : hits e nth ≡ false = none_hit (hits e nth) (not_outside least most nth e parts.0 out) in
    rw (and_false (same_dev e.dev dev && same_class (class_of e.fault) class) (hits e nth) off) (outside least most nth dev class es parts.1 out)

wider : (l m k n : ℕ) → k ≤ l → m ≤ n → (e : PlanEntry) → is_between l m e ≡ true → is_between k n e ≡ true
wider l m k n p q e is =
    let bounds = and_parts (nat_le l e.first) (nat_le (most_of e) m) is in
    let low : l ≤ e.first = grind (arith, nat_tests, bounds.0) in
    let high : most_of e ≤ m = grind (arith, nat_tests, bounds.1) in
    and_from (nat_le k e.first) (nat_le (most_of e) n) (grind (arith, nat_tests, low)) (grind (arith, nat_tests, high))

-- the same lines between wider bounds
all_wider : (l m k n : ℕ) → k ≤ l → m ≤ n → (es : List PlanEntry) → list_all (is_between l m) es ≡ true → list_all (is_between k n) es ≡ true
all_wider l m k n p q [] all = refl
all_wider l m k n p q (e ∷ es) all =
    let parts = and_parts (is_between l m e) (list_all (is_between l m) es) all in
    and_from (is_between k n e) (list_all (is_between k n) es) (wider l m k n p q e parts.0) (all_wider l m k n p q es parts.1)

itself : (e : PlanEntry) → is_between e.first (most_of e) e ≡ true
itself e = and_from (nat_le e.first e.first) (nat_le (most_of e) (most_of e)) (grind (arith, nat_tests)) (grind (arith, nat_tests))

-- one line more
pub between_more : (l m : ℕ) (es : List PlanEntry) (e : PlanEntry) → list_all (is_between l m) es ≡ true → list_all (is_between (min l e.first) (max m (most_of e))) (es ++ e ∷ []) ≡ true
between_more l m es e all =
    let k : ℕ = min l e.first in
    let n : ℕ = max m (most_of e) in
    let before = all_wider l m k n (omega arith) (omega arith) es all in
    let here = wider e.first (most_of e) k n (omega arith) (omega arith) e (itself e) in
    list_all-append (is_between k n) es (e ∷ [])
    ∙ and_from (list_all (is_between k n) es) (is_between k n e && true) before (and_from (is_between k n e) true here refl)

pub between_next : (es : List PlanEntry) (i : ℕ) (e : PlanEntry) (l m k n : ℕ) → i < length es → e ≡ get_or es i e → k ≡ min l e.first → n ≡ max m (most_of e)
    → list_all (is_between l m) (take i es) ≡ true → list_all (is_between k n) (take (i + 1) es) ≡ true
between_next es i e l m k n lt is low high all =
    let next : take (i + 1) es ≡ take i es ++ e ∷ [] = take_more es i e lt ∙ ap (λ (x : PlanEntry). take i es ++ x ∷ []) (sym is) in
    rw (next, low, high) (between_more l m (take i es) e all)

pub max_is : (a b : ℕ) → ord_max nat_cmp a b ≡ max a b
max_is a b = grind (arith, common_steps)
