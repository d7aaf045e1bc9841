-- How the deadlines of a list change, and which timers it holds.
use Rattle.std.proofs.Common.{◌≡◌, ◌∙◌, ℕ, ◌<◌, ◌==◌, true, if◌then◌else◌, List, [], ◌∷◌, ◌++◌, length, get_or, take, drop, Option, None, Some, refl, arith, inl, inr, ap, sym, subst, suc}
use Rattle.std.specs.List.{All, insert, remove}
use Rattle.std.proofs.lemmas.Bool.{cases_eq}
use Rattle.std.proofs.lemmas.Bool.Decides.{nat_tests}
use Rattle.std.proofs.lemmas.List.{take-append-drop, get_or_default}
use Rattle.std.proofs.lemmas.List.Elements.{All-nil, All-cons, All-head, All-tail, All-weaker, All-get_or}
use Rattle.std.proofs.Math.Seq.{drop-cons}
use Rattle.timer_list.specs.Timers.{Timer, deadline_of, Differ, Becomes, is_before, IsFirstDue, IsFirstOf}

-- a timer more between two parts of a list
put_between : (x : Timer) (front back : List Timer) → deadline_of x.0.0 (front ++ back) ≡ None → Becomes x.0.0 (Some x.1.0) (front ++ back) (front ++ x ∷ back)
put_between x [] back absent m = grind (arith, nat_tests)
put_between x (t ∷ front) back absent m = grind (arith, nat_tests, put_between x front back)

differ_between : (x : Timer) (front back : List Timer) → deadline_of x.0.0 (front ++ back) ≡ None → Differ (front ++ back) → Differ (front ++ x ∷ back)
differ_between x [] back absent differ = (absent, differ)
differ_between x (t ∷ front) back absent differ =
    (grind (arith, nat_tests, put_between x front back), differ_between x front back (grind (arith, nat_tests)) differ.1)

has_between : (x : Timer) (front back : List Timer) (n : ℕ) → deadline_of n (front ++ x ∷ back) ≡ None → n ≡ x.0.0 → ⊥
has_between x [] back n absent same = grind (arith, nat_tests)
has_between x (t ∷ front) back n absent same = grind (arith, nat_tests, has_between x front back n)

-- a timer less between two parts of a list
drop_between : (x : Timer) (front back : List Timer) → Differ (front ++ x ∷ back) → Becomes x.0.0 None (front ++ x ∷ back) (front ++ back)
drop_between x [] back differ m = grind (arith, nat_tests)
drop_between x (t ∷ front) back differ m = grind (arith, nat_tests, drop_between x front back differ.1 m, has_between x front back t.0.0 differ.0)

differ_without : (x : Timer) (front back : List Timer) → Differ (front ++ x ∷ back) → Differ (front ++ back)
differ_without x [] back differ = differ.1
differ_without x (t ∷ front) back differ =
    (grind (arith, nat_tests, drop_between x front back differ.1 t.0.0, differ.0), differ_without x front back differ.1)

-- the same of a place
pub put_becomes : (x : Timer) (ts : List Timer) (place : ℕ) → deadline_of x.0.0 ts ≡ None → Becomes x.0.0 (Some x.1.0) ts (insert ts place x)
put_becomes x ts place absent m =
    put_between x (take place ts) (drop place ts) (ap (λ (xs : List Timer). deadline_of x.0.0 xs) (take-append-drop place ts) ∙ absent) m
    ∙ ap (λ (xs : List Timer). if m == x.0.0 then Some x.1.0 else deadline_of m xs) (take-append-drop place ts)

pub put_differs : (x : Timer) (ts : List Timer) (place : ℕ) → deadline_of x.0.0 ts ≡ None → Differ ts → Differ (insert ts place x)
put_differs x ts place absent differ =
    differ_between x (take place ts) (drop place ts) (ap (λ (xs : List Timer). deadline_of x.0.0 xs) (take-append-drop place ts) ∙ absent)
    (subst (λ (xs : List Timer). Differ xs) (sym (take-append-drop place ts)) differ)

split_at : (ts : List Timer) (place : ℕ) (d : Timer) → place < length ts → take place ts ++ get_or ts place d ∷ drop (suc place) ts ≡ ts
split_at ts place d within = ap (λ (xs : List Timer). take place ts ++ xs) (sym (drop-cons ts place d within)) ∙ take-append-drop place ts

pub drop_becomes : (ts : List Timer) (place : ℕ) (d : Timer) → place < length ts → Differ ts → Becomes (get_or ts place d).0.0 None ts (remove ts place)
drop_becomes ts place d within differ m =
    drop_between (get_or ts place d) (take place ts) (drop (suc place) ts) (subst (λ (xs : List Timer). Differ xs) (sym (split_at ts place d within)) differ) m
    ∙ ap (λ (xs : List Timer). if m == (get_or ts place d).0.0 then None else deadline_of m xs) (split_at ts place d within)

pub drop_differs : (ts : List Timer) (place : ℕ) (d : Timer) → place < length ts → Differ ts → Differ (remove ts place)
drop_differs ts place d within differ =
    differ_without (get_or ts place d) (take place ts) (drop (suc place) ts) (subst (λ (xs : List Timer). Differ xs) (sym (split_at ts place d within)) differ)

same_deadline : (n m d other : ℕ) (rest : Option ℕ) → n ≡ m → (if n == m then Some d else rest) ≡ Some other → d ≡ other
same_deadline n m d other rest same is = grind (arith, nat_tests)

other_deadline : (n m d : ℕ) (rest found : Option ℕ) → (n ≡ m → ⊥) → (if n == m then Some d else rest) ≡ found → rest ≡ found
other_deadline n m d rest found differ is = grind (arith, nat_tests)

-- what holds of each timer holds of each deadline
of_all : (P : ℕ → ℕ → Type 0) (ts : List Timer) → All (λ t. P t.0.0 t.1.0) ts → (m other : ℕ) → deadline_of m ts ≡ Some other → P m other
of_all P [] all m other is = absurd (cc)
of_all P (t ∷ ts) all m other is =
    elim (cases_eq t.0.0 m) as (λ _. P m other) [
      | inl same ↦
          subst (λ o. P m o) (same_deadline t.0.0 m t.1.0 other (deadline_of m ts) same is)
          (subst (λ k. P k t.1.0) same (All-head (λ (x : Timer). P x.0.0 x.1.0) t ts all))
      | inr differ ↦
          of_all P ts (All-tail (λ (x : Timer). P x.0.0 x.1.0) t ts all) m other
          (other_deadline t.0.0 m t.1.0 (deadline_of m ts) (Some other) differ is)
    ]

stays : (m n d other : ℕ) (ts : List Timer) → deadline_of n ts ≡ None → deadline_of m ts ≡ Some other → (if n == m then Some d else deadline_of m ts) ≡ Some other
stays m n d other ts absent is = grind (arith, nat_tests)

-- a timer of the list is its attempt's
found : (ts : List Timer) → Differ ts → All (λ t. deadline_of t.0.0 ts ≡ Some t.1.0) ts
found [] differ = All-nil (λ (x : Timer). deadline_of x.0.0 [] ≡ Some x.1.0)
found (t ∷ ts) differ =
    All-cons (λ (x : Timer). deadline_of x.0.0 (t ∷ ts) ≡ Some x.1.0) t ts (grind (arith, nat_tests))
    (All-weaker (λ (x : Timer). deadline_of x.0.0 ts ≡ Some x.1.0) (λ (x : Timer). deadline_of x.0.0 (t ∷ ts) ≡ Some x.1.0)
    (λ x is. stays x.0.0 t.0.0 t.1.0 x.1.0 ts differ.0 is) ts (found ts differ.1))

pub found_at : (ts : List Timer) (k : ℕ) (d : Timer) → k < length ts → Differ ts → deadline_of (get_or ts k d).0.0 ts ≡ Some (get_or ts k d).1.0
found_at ts k d within differ = All-get_or (λ (t : Timer). deadline_of t.0.0 ts ≡ Some t.1.0) ts k d within (found ts differ)

-- where no timer is the attempt's, it has no deadline
pub absent_from : (n : ℕ) (ts : List Timer) → All (λ t. t.0.0 ≡ n → ⊥) ts → deadline_of n ts ≡ None
absent_from n [] all = refl
absent_from n (t ∷ ts) all =
    let head : t.0.0 ≡ n → ⊥ = All-head (λ (x : Timer). x.0.0 ≡ n → ⊥) t ts all in
    let rest : deadline_of n ts ≡ None = absent_from n ts (All-tail (λ (x : Timer). x.0.0 ≡ n → ⊥) t ts all) in
    grind (arith, nat_tests)

-- the place of an attempt's timer
pub standing : (ts : List Timer) (d : Timer) (m other : ℕ) → deadline_of m ts ≡ Some other → (k : ℕ) × (k < length ts) × ((get_or ts k d).0.0 ≡ m) × ((get_or ts k d).1.0 ≡ other)
standing ts d =
    of_all (λ m other. (k : ℕ) × (k < length ts) × ((get_or ts k d).0.0 ≡ m) × ((get_or ts k d).1.0 ≡ other)) ts
    (λ k e within. (k, within, ap (λ (t : Timer). t.0.0) (get_or_default ts k d e within), ap (λ (t : Timer). t.1.0) (get_or_default ts k d e within)))

pub none_due : (ts : List Timer) (now : ℕ) → IsFirstOf ts now None → IsFirstDue ts now None
none_due ts now all = of_all (λ n deadline. now < deadline) ts all

pub first_due : (ts : List Timer) (now : ℕ) (x : Timer) → Differ ts → IsFirstOf ts now (Some x) → IsFirstDue ts now (Some x.0)
first_due ts now x differ is =
    let has : deadline_of x.0.0 ts ≡ Some x.1.0 =
    subst (λ (t : Timer). deadline_of t.0.0 ts ≡ Some t.1.0) is.0.2 (found_at ts is.0.0 x is.0.1 differ)
    in
    (x.1.0, has, is.1, of_all (λ m other. is_before x.0.0 x.1.0 m other ≡ true) ts is.2)
