-- Where a search in a row ends, and that edits keep its order.
use Rattle.std.proofs.Common.{◌≡◌, ◌∙◌, ℕ, ◌+◌, ◌-◌, ◌<◌, ◌≤◌, true, Bool, List, length, get_or, None, Some, arith, ap, sym, subst}
use Rattle.std.specs.List.{insert, remove}
use Rattle.std.specs.List.Sorted.{IsPartitionedBy}
use Rattle.std.proofs.lemmas.Bool.Decides.{nat_tests}
use Rattle.std.specs.Prelude.{IsSome, is_some, if◌then◌else◌}
use Rattle.std.proofs.lemmas.List.{get_or_default}
use Rattle.std.proofs.lemmas.List.Edits.{length-insert, get_or-insert_below, get_or-insert_at, get_or-insert_above, length-remove, get_or-remove_below, get_or-remove_above}
use Rattle.timer_list.specs.Timers.{Timer, deadline_of, Differ, Becomes, IsFirstOf}
use Rattle.timer_list.specs.Orders.{is_lower, is_earlier, IsRow, IsPlace, IsAt, AreKept}
use Rattle.timer_list.proofs.Lists.{put_becomes, put_differs, drop_becomes, drop_differs, found_at, absent_from, standing}

-- an order in which what precedes one that precedes a third precedes the third
abbrev pub Chains : (Timer → Timer → Bool) → Type 0
Chains precedes = (x y z : Timer) → precedes x y ≡ true → precedes y z ≡ true → precedes x z ≡ true

pub parted : (precedes : Timer → Timer → Bool) → Chains precedes → (x : Timer) (ts : List Timer) → IsRow precedes ts → IsPartitionedBy (λ y. precedes y x) ts
parted precedes chains x ts row i j d le within passes =
    grind (arith, chains (get_or ts i d) (get_or ts j d) x, row.ordered i j d)

-- an edit leaves the order of what it doesn't move
pub row_put : (precedes : Timer → Timer → Bool) (x : Timer) (ts : List Timer) (place : ℕ) → IsRow precedes ts → IsPlace precedes x ts place → deadline_of x.0.0 ts ≡ None
    → ((k : ℕ) (d : Timer) → place ≤ k → k < length ts → precedes x (get_or ts k d) ≡ true) → IsRow precedes (insert ts place x)
row_put precedes x ts place row at absent after = record {
  ordered = λ i j d lt within.
      let new : List Timer = insert ts place x in
      let long : length new ≡ length ts + 1 = length-insert ts place x at.within in
      let low : (k : ℕ) → k < place → get_or new k d ≡ get_or ts k d = λ k below. get_or-insert_below ts place x d k below at.within in
      let here : (k : ℕ) → k ≡ place → get_or new k d ≡ x = λ k same. subst (λ (q : ℕ). get_or new q d ≡ x) (sym same) (get_or-insert_at ts place x d at.within) in
      let high : (k : ℕ) → place < k → get_or new k d ≡ get_or ts (k - 1) d = λ k above.
      subst (λ (q : ℕ). get_or new q d ≡ get_or ts (k - 1) d) {x = k - 1 + 1} (omega arith) (get_or-insert_above ts place x d (k - 1) (omega arith) at.within)
      in
      grind (arith, low i, here i, high i, low j, here j, high j, row.ordered i j d, row.ordered i (j - 1) d, row.ordered (i - 1) (j - 1) d, at.below i d, after (j - 1) d);
  differ = put_differs x ts place absent row.differ;
}

pub row_without : (precedes : Timer → Timer → Bool) (ts : List Timer) (place : ℕ) (d : Timer) → place < length ts → IsRow precedes ts → IsRow precedes (remove ts place)
row_without precedes ts place x at row = record {
  ordered = λ i j d lt within.
      let new : List Timer = remove ts place in
      let long : length new + 1 ≡ length ts = length-remove ts place at in
      let low : (k : ℕ) → k < place → get_or new k d ≡ get_or ts k d = λ k below. get_or-remove_below ts place d k below at in
      let high : (k : ℕ) → place ≤ k → get_or new k d ≡ get_or ts (k + 1) d = λ k above. get_or-remove_above ts place d k above at in
      grind (arith, low i, high i, low j, high j, row.ordered i j d, row.ordered i (j + 1) d, row.ordered (i + 1) (j + 1) d);
  differ = drop_differs ts place x at row.differ;
}

-- an attempt loses its deadline with its timer
pub dropped : (n : ℕ) (x : Timer) (ts : List Timer) (place : ℕ) → Differ ts → IsAt n ts place → Becomes n None ts (remove ts place)
dropped n x ts place differ at =
    subst (λ (m : ℕ). Becomes m None ts (remove ts place)) (at.number x) (drop_becomes ts place x at.within differ)

pub has_some : (n : ℕ) (x : Timer) (ts : List Timer) (place : ℕ) → Differ ts → IsAt n ts place → IsSome (deadline_of n ts)
has_some n x ts place differ at =
    grind (arith, found_at ts place x at.within differ, at.number x)

pub counted : (n : ℕ) (x : Timer) (ts : List Timer) (place : ℕ) → Differ ts → IsAt n ts place → length ts ≡ length (remove ts place) + (if is_some (deadline_of n ts) then 1 else 0)
counted n x ts place differ at =
    grind (arith, length-remove ts place at.within, found_at ts place x at.within differ, at.number x)

-- the two orders
pub lower_chains : Chains is_lower
lower_chains x y z one two = grind (arith, nat_tests)

pub earlier_chains : Chains is_earlier
earlier_chains x y z one two = grind (arith, nat_tests)

-- no timer of an attempt stands anywhere in a row without one
pub elsewhere : (n : ℕ) (ts : List Timer) (k : ℕ) (d : Timer) → deadline_of n ts ≡ None → Differ ts → k < length ts → (get_or ts k d).0.0 ≡ n → ⊥
elsewhere n ts k d absent differ within same =
    let has : deadline_of (get_or ts k d).0.0 ts ≡ Some (get_or ts k d).1.0 = found_at ts k d within differ in
    let has_none : deadline_of (get_or ts k d).0.0 ts ≡ None = subst (λ (m : ℕ). deadline_of m ts ≡ None) (sym same) absent in
    grind (arith, has, has_none)

pub put_by_number : (x : Timer) (ts : List Timer) (place : ℕ) → IsRow is_lower ts → IsPlace is_lower x ts place → deadline_of x.0.0 ts ≡ None → IsRow is_lower (insert ts place x)
put_by_number x ts place row at absent =
    row_put is_lower x ts place row at absent (λ k d above within. grind (arith, nat_tests, at.others k d above within, elsewhere x.0.0 ts k d absent row.differ within))

pub put_by_deadline : (x : Timer) (ts : List Timer) (place : ℕ) → IsRow is_earlier ts → IsPlace is_earlier x ts place → deadline_of x.0.0 ts ≡ None → IsRow is_earlier (insert ts place x)
put_by_deadline x ts place row at absent =
    row_put is_earlier x ts place row at absent (λ k d above within. grind (arith, nat_tests, at.others k d above within, elsewhere x.0.0 ts k d absent row.differ within))

-- a search by number ends at the attempt's timer, or there is none
pub no_number : (x : Timer) (ts : List Timer) (place : ℕ) → IsRow is_lower ts → IsPlace is_lower x ts place → (place < length ts → (d : Timer) → (get_or ts place d).0.0 ≡ x.0.0 → ⊥) → deadline_of x.0.0 ts ≡ None
no_number x ts place row at other =
    absent_from x.0.0 ts (λ k d within same.
    grind (arith, nat_tests, at.below k d, at.others k d, at.others place d, row.ordered place k d, (λ (in_row : place < length ts). other in_row d)))

-- a search by deadline ends at the timer itself
pub stands : (x : Timer) (ts : List Timer) (place : ℕ) → IsRow is_earlier ts → IsPlace is_earlier x ts place → deadline_of x.0.0 ts ≡ Some x.1.0 → IsAt x.0.0 ts place
stands x ts place row at has =
    let it = standing ts x x.0.0 x.1.0 has in
    let below : it.0 < place → ⊥ = λ lt. grind (arith, nat_tests, at.below it.0 x lt) in
    let above : place < it.0 → ⊥ = λ lt. grind (arith, nat_tests, at.others place x (omega arith) (omega (arith, it.1)), row.ordered place it.0 x lt it.1) in
    let same : it.0 ≡ place = omega (arith, below, above) in
    let within : place < length ts = omega (arith, it.1, same) in
    record {
      within = within;
      number = λ d. ap (λ (t : Timer). t.0.0) (get_or_default ts place d x within) ∙ ap (λ (k : ℕ). (get_or ts k x).0.0) (sym same) ∙ it.2;
    }

-- the two rows after an edit of both
pub kept_put : (x : Timer) (numbers deadlines : List Timer) (p q : ℕ) → AreKept numbers deadlines → deadline_of x.0.0 deadlines ≡ None
    → IsPlace is_lower x numbers p → IsPlace is_earlier x deadlines q → AreKept (insert numbers p x) (insert deadlines q x)
kept_put x numbers deadlines p q kept absent at_p at_q =
    let none : deadline_of x.0.0 numbers ≡ None = kept.each x.0.0 ∙ absent in record {
      by_number = put_by_number x numbers p kept.by_number at_p none;
      by_deadline = put_by_deadline x deadlines q kept.by_deadline at_q absent;
      count = omega (arith, length-insert numbers p x at_p.within, length-insert deadlines q x at_q.within, kept.count);
      each = λ m. grind (arith, put_becomes x numbers p none m, put_becomes x deadlines q absent m, kept.each m);
    }

-- a timer that the search by number has found and taken out of its row stands where the search by deadline ends; each has
-- searched what it was lent
pub stands_too : (n : ℕ) (x : Timer) (numbers deadlines lent other : List Timer) (p q : ℕ) → AreKept numbers deadlines → lent ≡ numbers → IsAt n lent p → x ≡ get_or numbers p x
    → other ≡ deadlines → IsPlace is_earlier x other q → IsAt n deadlines q
stands_too n x numbers deadlines lent other p q kept same at_lent is same_other at_other =
    let at_p : IsAt n numbers p = subst (λ (ts : List Timer). IsAt n ts p) same at_lent in
    let at_q : IsPlace is_earlier x deadlines q = subst (λ (ts : List Timer). IsPlace is_earlier x ts q) same_other at_other in
    let number : x.0.0 ≡ n = ap (λ (t : Timer). t.0.0) is ∙ at_p.number x in
    let has : deadline_of x.0.0 numbers ≡ Some x.1.0 =
    subst (λ (t : Timer). deadline_of t.0.0 numbers ≡ Some t.1.0) (sym is) (found_at numbers p x at_p.within kept.by_number.differ)
    in
    subst (λ (m : ℕ). IsAt m deadlines q) number
    (stands x deadlines q kept.by_deadline at_q (sym (kept.each x.0.0) ∙ has))

pub kept_dropped : (n : ℕ) (x : Timer) (numbers deadlines : List Timer) (p q : ℕ) → AreKept numbers deadlines → IsAt n numbers p → IsAt n deadlines q → AreKept (remove numbers p) (remove deadlines q)
kept_dropped n x numbers deadlines p q kept at_p at_q = record {
  by_number = row_without is_lower numbers p x at_p.within kept.by_number;
  by_deadline = row_without is_earlier deadlines q x at_q.within kept.by_deadline;
  count = omega (arith, length-remove numbers p at_p.within, length-remove deadlines q at_q.within, kept.count);
  each = λ m. grind (arith, dropped n x numbers p kept.by_number.differ at_p m, dropped n x deadlines q kept.by_deadline.differ at_q m, kept.each m);
}

-- the first timer of a row by deadline comes before the others
pub late_row : (ts : List Timer) (now : ℕ) (x : Timer) → IsRow is_earlier ts → ((d : Timer) → get_or ts 0 d ≡ x) → now < x.1.0 → IsFirstOf ts now None
late_row ts now x row first late k d within = grind (arith, nat_tests, row.ordered 0 k d, first d)

pub first_row : (ts : List Timer) (now : ℕ) (x : Timer) → IsRow is_earlier ts → 0 < length ts → ((d : Timer) → get_or ts 0 d ≡ x) → x.1.0 ≤ now → IsFirstOf ts now (Some x)
first_row ts now x row some first due =
    ((0, some, first x), due, λ k d within. grind (arith, nat_tests, row.ordered 0 k d, first d))
