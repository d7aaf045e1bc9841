-- One place more leaves the links of the others right.
use Rattle.std.proofs.Common.{◌≡◌, ◌≢◌, ℕ, ◌+◌, ◌<◌, ◌≤◌, ◌⊎◌, List, [], ◌∷◌, ◌++◌, None, Some, get_or, set, length, refl, sym, ◌∙◌, ap, subst, arith, ⊎_elim, inl, inr, cond}
use Rattle.std.specs.Prelude.{zero, suc, Option, Bool, nat_eq}
use Rattle.std.proofs.lemmas.Option.{same_Some, none-some}
use Rattle.std.proofs.lemmas.List.{get_or_append_left, get_or_push, get_or_past, length_push, length-set, get_or-set_same, get_or-set_other}
use Rattle.std.proofs.lemmas.Bool.{cases_order, cases_eq, eq-eqb, ne_eqb}
use Rattle.core_book.specs.declared.links.Ends.{Ends}
use Rattle.core_book.specs.Places.{nowhere, IsNext, AreEnds, AreLinked, IsFirst, IsFollowed}

abbrev Is : List (Option ℕ) → ℕ → ℕ → Type 0
Is os c k = get_or os k None ≡ Some c

-- a place of a command is a place
pub is_within : (os : List (Option ℕ)) (c k : ℕ) → Is os c k → k < length os
is_within [] c k h = absurd (none-some c h)
is_within (o ∷ os) c zero h = omega arith
is_within (o ∷ os) c (suc k) h = let rest : k < length os = is_within os c k h in omega (arith, rest)

-- it stays one
kept : (os : List (Option ℕ)) (o : Option ℕ) (c k : ℕ) → Is os c k → Is (os ++ o ∷ []) c k
kept os o c k h = get_or_append_left os (o ∷ []) None k (is_within os c k h) ∙ h

added : (os : List (Option ℕ)) (o : Option ℕ) (c : ℕ) → o ≡ Some c → Is (os ++ o ∷ []) c (length os)
added os o c h = get_or_push os o None (length os) refl ∙ h

-- and no other comes but the new one
pushed : (os : List (Option ℕ)) (o : Option ℕ) (c k : ℕ) → Is (os ++ o ∷ []) c k → Is os c k ⊎ ((k ≡ length os) × (o ≡ Some c))
pushed os o c k h = elim (cases_order k (length os)) [
  | inl same ↦ inr (same, sym (get_or_push os o None k (sym same)) ∙ h)
  | inr apart ↦ elim apart [
    | inl below ↦ inl (sym (get_or_append_left os (o ∷ []) None k below) ∙ h)
    | inr above ↦
        let long : length (os ++ o ∷ []) ≡ length os + 1 = length_push os o in
        let past : length (os ++ o ∷ []) ≤ k = omega (arith, long, above) in
        absurd (none-some c (sym (get_or_past (os ++ o ∷ []) k None past) ∙ h))
  ]
]

pushed_apart : (os : List (Option ℕ)) (o : Option ℕ) (c k : ℕ) → get_or os k None ≢ Some c → (k ≡ length os → o ≢ Some c) → get_or (os ++ o ∷ []) k None ≢ Some c
pushed_apart os o c k none new h = ⊎_elim (λ (old : Is os c k). none old) (λ (at : (k ≡ length os) × (o ≡ Some c)). new at.0 at.1) (pushed os o c k h)

-- the links of a command that the new place isn't of
next_kept : (os : List (Option ℕ)) (o : Option ℕ) (c i j : ℕ) → o ≢ Some c → IsNext os c i j → IsNext (os ++ o ∷ []) c i j
next_kept os o c i j other next = record {
  behind = next.behind;
  between = λ k low high. pushed_apart os o c k (next.between k low high) (λ at. other);
  there = ⊎_elim (λ (none : j ≡ nowhere). inl none) (λ (is : Is os c j). inr (kept os o c j is)) next.there;
}

ends_kept : (os : List (Option ℕ)) (o : Option ℕ) (c first last : ℕ) → o ≢ Some c → AreEnds os c first last → AreEnds (os ++ o ∷ []) c first last
ends_kept os o c first last other ends = record {
  first = kept os o c first ends.first;
  before = λ k low. pushed_apart os o c k (ends.before k low) (λ at. other);
  last = kept os o c last ends.last;
  behind = λ k high. pushed_apart os o c k (ends.behind k high) (λ at. other);
}

-- a link within the command that the new place is of
next_within : (os : List (Option ℕ)) (o : Option ℕ) (c i j : ℕ) → Is os c j → IsNext os c i j → IsNext (os ++ o ∷ []) c i j
next_within os o c i j is next =
    let within : j < length os = is_within os c j is in
    record {
      behind = next.behind;
      between = λ k low high. pushed_apart os o c k (next.between k low high) (λ at. absurd (omega (arith, at, high, within)));
      there = inr (kept os o c j is);
    }

-- the new place leads nowhere
next_new : (os : List (Option ℕ)) (o : Option ℕ) (c : ℕ) → length os < nowhere → IsNext (os ++ o ∷ []) c (length os) nowhere
next_new os o c fits = record {
  behind = fits;
  between = λ k low high h. ⊎_elim
      (λ (old : Is os c k). let within : k < length os = is_within os c k old in absurd (omega (arith, within, low)))
      (λ (at : (k ≡ length os) × (o ≡ Some c)). let same : k ≡ length os = at.0 in absurd (omega (arith, same, low)))
      (pushed os o c k h);
  there = inl refl;
}

-- what was linked reads as before, below the new place
next_read : (next : List ℕ) (n i : ℕ) → length next ≡ n → i < n → get_or (next ++ nowhere ∷ []) i 0 ≡ get_or next i 0
next_read next n i long below = get_or_append_left next (nowhere ∷ []) 0 i (omega (arith, long, below))

-- a place of no command
pub linked_none : (os : List (Option ℕ)) (next : List ℕ) (ends : ℕ → Option Ends) → AreLinked os next ends → AreLinked (os ++ None ∷ []) (next ++ nowhere ∷ []) ends
linked_none os next ends linked =
    let longer : length (next ++ nowhere ∷ []) ≡ length next + 1 = length_push next nowhere in
    let long : length (os ++ None ∷ []) ≡ length os + 1 = length_push os None in
    let count : length next ≡ length os = linked.count in
    record {
      count = omega (arith, longer, long, count);
      next = λ c i h. ⊎_elim
          (λ (old : Is os c i).
          subst (λ (j : ℕ). IsNext (os ++ None ∷ []) c i j) (sym (next_read next (length os) i count (is_within os c i old)))
          (next_kept os None c i (get_or next i 0) (none-some c) (linked.next c i old)))
          (λ (at : (i ≡ length os) × (None ≡ Some c)). absurd (none-some c at.1))
          (pushed os None c i h);
      absent = λ c k none. pushed_apart os None c k (linked.absent c k none) (λ at. none-some c);
      ends = λ c e is. ends_kept os None c e.first e.last (none-some c) (linked.ends c e is);
    }

-- the new place's own link
link_new : (os : List (Option ℕ)) (next : List ℕ) (o : Option ℕ) (d i : ℕ) → length next ≡ length os → length os < nowhere → i ≡ length os
    → IsNext (os ++ o ∷ []) d i (get_or (next ++ nowhere ∷ []) i 0)
link_new os next o d i count fits at =
    subst (λ (j : ℕ). IsNext (os ++ o ∷ []) d i j) (sym (get_or_push next nowhere 0 i (count ∙ sym at)))
    (subst (λ (k : ℕ). IsNext (os ++ o ∷ []) d k nowhere) (sym at) (next_new os o d fits))

-- a link of before
link_old : (os : List (Option ℕ)) (next : List ℕ) (o : Option ℕ) (d i : ℕ) → length next ≡ length os → Is os d i → IsNext (os ++ o ∷ []) d i (get_or next i 0)
    → IsNext (os ++ o ∷ []) d i (get_or (next ++ nowhere ∷ []) i 0)
link_old os next o d i count old is = subst (λ (j : ℕ). IsNext (os ++ o ∷ []) d i j) (sym (next_read next (length os) i count (is_within os d i old))) is

-- what the map has after v is put at c
abbrev Puts : (ℕ → Option Ends) → (ℕ → Option Ends) → ℕ → Ends → Type 0
Puts ends ends' c v = (q : ℕ) → ends' q ≡ cond (nat_eq c q) (Some v) (ends q)

put_here : (ends ends' : ℕ → Option Ends) (c : ℕ) (v : Ends) → Puts ends ends' c v → ends' c ≡ Some v
put_here ends ends' c v put = put c ∙ ap (λ (b : Bool). cond b (Some v) (ends c)) (eq-eqb c c refl)

put_apart : (ends ends' : ℕ → Option Ends) (c : ℕ) (v : Ends) → Puts ends ends' c v → (q : ℕ) → (c ≡ q → ⊥) → ends' q ≡ ends q
put_apart ends ends' c v put q apart = put q ∙ ap (λ (b : Bool). cond b (Some v) (ends q)) (ne_eqb c q apart)

other : (c d : ℕ) → (c ≡ d → ⊥) → Some c ≢ Some d
other c d apart h = apart (same_Some c d h)

absent_put : (os : List (Option ℕ)) (ends ends' : ℕ → Option Ends) (c : ℕ) (v : Ends) → ((d k : ℕ) → ends d ≡ None → get_or os k None ≢ Some d) → Puts ends ends' c v
    → (d k : ℕ) → ends' d ≡ None → get_or (os ++ Some c ∷ []) k None ≢ Some d
absent_put os ends ends' c v absent put d k none = ⊎_elim
    (λ (same : c ≡ d). absurd (none-some v (sym none ∙ (ap ends' (sym same) ∙ put_here ends ends' c v put))))
    (λ (apart : c ≡ d → ⊥). pushed_apart os (Some c) d k (absent d k (sym (put_apart ends ends' c v put d apart) ∙ none)) (λ at. other c d apart))
    (cases_eq c d)

ends_put : (os : List (Option ℕ)) (ends ends' : ℕ → Option Ends) (c : ℕ) (v : Ends) → ((d : ℕ) (e : Ends) → ends d ≡ Some e → AreEnds os d e.first e.last) → Puts ends ends' c v
    → AreEnds (os ++ Some c ∷ []) c v.first v.last → (d : ℕ) (e : Ends) → ends' d ≡ Some e → AreEnds (os ++ Some c ∷ []) d e.first e.last
ends_put os ends ends' c v old put new d e is = ⊎_elim
    (λ (same : c ≡ d).
    let found : v ≡ e = same_Some v e (sym (put_here ends ends' c v put) ∙ (ap ends' same ∙ is)) in
    subst (λ (x : Ends). AreEnds (os ++ Some c ∷ []) d x.first x.last) found (subst (λ (q : ℕ). AreEnds (os ++ Some c ∷ []) q v.first v.last) same new))
    (λ (apart : c ≡ d → ⊥). ends_kept os (Some c) d e.first e.last (other c d apart) (old d e (sym (put_apart ends ends' c v put d apart) ∙ is)))
    (cases_eq c d)

-- no place is of c behind the last, which is the new one
none_behind : (os : List (Option ℕ)) (c k : ℕ) → length os < k → get_or (os ++ Some c ∷ []) k None ≢ Some c
none_behind os c k high h = ⊎_elim
    (λ (old : Is os c k). let within : k < length os = is_within os c k old in absurd (omega (arith, within, high)))
    (λ (at : (k ≡ length os) × (Some c ≡ Some c)). let same : k ≡ length os = at.0 in absurd (omega (arith, same, high)))
    (pushed os (Some c) c k h)

ends_first : (os : List (Option ℕ)) (c : ℕ) → ((k : ℕ) → get_or os k None ≢ Some c) → AreEnds (os ++ Some c ∷ []) c (length os) (length os)
ends_first os c none = record {
  first = added os (Some c) c refl;
  before = λ k low. pushed_apart os (Some c) c k (none k) (λ at. absurd (omega (arith, at, low)));
  last = added os (Some c) c refl;
  behind = λ k high. none_behind os c k high;
}

ends_more : (os : List (Option ℕ)) (c first last : ℕ) → AreEnds os c first last → AreEnds (os ++ Some c ∷ []) c first (length os)
ends_more os c first last ends =
    let within : first < length os = is_within os c first ends.first in
    record {
      first = kept os (Some c) c first ends.first;
      before = λ k low. pushed_apart os (Some c) c k (ends.before k low) (λ at. absurd (omega (arith, at, low, within)));
      last = added os (Some c) c refl;
      behind = λ k high. none_behind os c k high;
    }

-- the first place of a command
pub linked_first : (os : List (Option ℕ)) (next : List ℕ) (ends ends' : ℕ → Option Ends) (c : ℕ) (v : Ends) → AreLinked os next ends → length os < nowhere → ends c ≡ None
    → v.first ≡ length os → v.last ≡ length os → Puts ends ends' c v → AreLinked (os ++ Some c ∷ []) (next ++ nowhere ∷ []) ends'
linked_first os next ends ends' c v linked fits new first last put =
    let longer : length (next ++ nowhere ∷ []) ≡ length next + 1 = length_push next nowhere in
    let long : length (os ++ Some c ∷ []) ≡ length os + 1 = length_push os (Some c) in
    let count : length next ≡ length os = linked.count in
    let own : AreEnds (os ++ Some c ∷ []) c v.first v.last =
    subst (λ (k : ℕ). AreEnds (os ++ Some c ∷ []) c k v.last) (sym first)
    (subst (λ (k : ℕ). AreEnds (os ++ Some c ∷ []) c (length os) k) (sym last) (ends_first os c (λ k. linked.absent c k new))) in
    record {
      count = omega (arith, longer, long, count);
      next = λ d i h. ⊎_elim
          (λ (old : Is os d i).
          let apart : Some c ≢ Some d = λ same. linked.absent c i new (old ∙ sym same) in
          link_old os next (Some c) d i count old (next_kept os (Some c) d i (get_or next i 0) apart (linked.next d i old)))
          (λ (at : (i ≡ length os) × (Some c ≡ Some d)). link_new os next (Some c) d i count fits at.0)
          (pushed os (Some c) d i h);
      absent = absent_put os ends ends' c v linked.absent put;
      ends = ends_put os ends ends' c v linked.ends put own;
    }

-- the old last place leads to the new one
link_last : (os : List (Option ℕ)) (c d first last : ℕ) → AreEnds os c first last → c ≡ d → IsNext (os ++ Some c ∷ []) d last (length os)
link_last os c d first last ends same =
    subst (λ (q : ℕ). IsNext (os ++ Some c ∷ []) q last (length os)) same
    record {
      behind = is_within os c last ends.last;
      between = λ k low high. pushed_apart os (Some c) c k (ends.behind k low) (λ at. absurd (omega (arith, at, high)));
      there = inr (added os (Some c) c refl);
    }

-- any other place of c leads where it led
link_inner : (os : List (Option ℕ)) (c first last i j : ℕ) → AreEnds os c first last → length os < nowhere → Is os c i → i ≢ last → IsNext os c i j → IsNext (os ++ Some c ∷ []) c i j
link_inner os c first last i j ends fits is apart next = ⊎_elim
    (λ (none : j ≡ nowhere).
    let within : last < length os = is_within os c last ends.last in
    let low : i < last = elim (cases_order i last) [
      | inl same ↦ absurd (apart same)
      | inr sides ↦ elim sides [ inl below ↦ below | inr above ↦ absurd (ends.behind i above is) ]
    ] in
    let high : last < j = omega (arith, none, within, fits) in
    absurd (next.between last low high ends.last))
    (λ (there : Is os c j). next_within os (Some c) c i j there next)
    next.there

link_apart : (os : List (Option ℕ)) (c d first last i j : ℕ) → AreEnds os c first last → length os < nowhere → Is os d i → i ≢ last → IsNext os d i j → IsNext (os ++ Some c ∷ []) d i j
link_apart os c d first last i j ends fits is apart next = ⊎_elim
    (λ (same : d ≡ c).
    subst (λ (q : ℕ). IsNext (os ++ Some c ∷ []) q i j) (sym same)
    (link_inner os c first last i j ends fits (subst (λ (q : ℕ). Is os q i) same is) apart (subst (λ (q : ℕ). IsNext os q i j) same next)))
    (λ (differ : d ≡ c → ⊥). next_kept os (Some c) d i j (other c d (λ same. differ (sym same))) next)
    (cases_eq d c)

-- one more place of a command
pub linked_more : (os : List (Option ℕ)) (next : List ℕ) (ends ends' : ℕ → Option Ends) (c : ℕ) (e v : Ends) → AreLinked os next ends → length os < nowhere → ends c ≡ Some e
    → v.first ≡ e.first → v.last ≡ length os → Puts ends ends' c v → AreLinked (os ++ Some c ∷ []) (set (next ++ nowhere ∷ []) e.last (length os)) ends'
linked_more os next ends ends' c e v linked fits known first last put =
    let longer : length (next ++ nowhere ∷ []) ≡ length next + 1 = length_push next nowhere in
    let long : length (os ++ Some c ∷ []) ≡ length os + 1 = length_push os (Some c) in
    let same : length (set (next ++ nowhere ∷ []) e.last (length os)) ≡ length (next ++ nowhere ∷ []) = length-set (next ++ nowhere ∷ []) e.last (length os) in
    let count : length next ≡ length os = linked.count in
    let was : AreEnds os c e.first e.last = linked.ends c e known in
    let within : e.last < length os = is_within os c e.last was.last in
    let inside : e.last < length (next ++ nowhere ∷ []) = omega (arith, longer, count, within) in
    let own : AreEnds (os ++ Some c ∷ []) c v.first v.last =
    subst (λ (k : ℕ). AreEnds (os ++ Some c ∷ []) c k v.last) (sym first)
    (subst (λ (k : ℕ). AreEnds (os ++ Some c ∷ []) c e.first k) (sym last) (ends_more os c e.first e.last was)) in
    let other_link : (d i : ℕ) → i ≢ e.last → IsNext (os ++ Some c ∷ []) d i (get_or (next ++ nowhere ∷ []) i 0)
    → IsNext (os ++ Some c ∷ []) d i (get_or (set (next ++ nowhere ∷ []) e.last (length os)) i 0) =
    λ d i apart is. subst (λ (j : ℕ). IsNext (os ++ Some c ∷ []) d i j) (sym (get_or-set_other (next ++ nowhere ∷ []) e.last i (length os) 0 apart)) is in
    record {
      count = omega (arith, same, longer, long, count);
      next = λ d i h. ⊎_elim
          (λ (old : Is os d i). ⊎_elim
          (λ (at : i ≡ e.last).
          let one : c ≡ d = same_Some c d (sym was.last ∙ (ap (λ (k : ℕ). get_or os k None) (sym at) ∙ old)) in
          subst (λ (k : ℕ). IsNext (os ++ Some c ∷ []) d k (get_or (set (next ++ nowhere ∷ []) e.last (length os)) k 0)) (sym at)
          (subst (λ (j : ℕ). IsNext (os ++ Some c ∷ []) d e.last j) (sym (get_or-set_same (next ++ nowhere ∷ []) e.last (length os) 0 inside))
          (link_last os c d e.first e.last was one)))
          (λ (apart : i ≢ e.last).
          other_link d i apart (link_old os next (Some c) d i count old (link_apart os c d e.first e.last i (get_or next i 0) was fits old apart (linked.next d i old))))
          (cases_eq i e.last))
          (λ (at : (i ≡ length os) × (Some c ≡ Some d)).
          let here : i ≡ length os = at.0 in
          let apart : i ≢ e.last = λ at_last. absurd (omega (arith, here, at_last, within)) in
          other_link d i apart (link_new os next (Some c) d i count fits here))
          (pushed os (Some c) d i h);
      absent = absent_put os ends ends' c v linked.absent put;
      ends = ends_put os ends ends' c v linked.ends put own;
    }

-- equal links, and a map that has the same
pub linked_same : (os : List (Option ℕ)) (next next' : List ℕ) (ends ends' : ℕ → Option Ends) → AreLinked os next ends → next' ≡ next → ((q : ℕ) → ends' q ≡ ends q) → AreLinked os next' ends'
linked_same os next next' ends ends' linked same each = record {
  count = ap length same ∙ linked.count;
  next = λ c i h. subst (λ (xs : List ℕ). IsNext os c i (get_or xs i 0)) (sym same) (linked.next c i h);
  absent = λ c k none. linked.absent c k (sym (each c) ∙ none);
  ends = λ c e is. linked.ends c e (sym (each c) ∙ is);
}

-- where a command's places begin
pub first_found : (os : List (Option ℕ)) (next : List ℕ) (ends : ℕ → Option Ends) (c : ℕ) (e : Ends) → AreLinked os next ends → ends c ≡ Some e → IsFirst os c e.first
first_found os next ends c e linked known =
    let was : AreEnds os c e.first e.last = linked.ends c e known in
    record { before = was.before; there = inr was.first }

pub first_none : (os : List (Option ℕ)) (next : List ℕ) (ends : ℕ → Option Ends) (c : ℕ) → AreLinked os next ends → ends c ≡ None → IsFirst os c nowhere
first_none os next ends c linked none = record { before = λ k low. linked.absent c k none; there = inl refl }

pub followed : (os : List (Option ℕ)) (next : List ℕ) (ends : ℕ → Option Ends) (c j : ℕ) → AreLinked os next ends → IsFirst os c j → IsFollowed os c next j
followed os next ends c j linked first = record { count = linked.count; next = λ i is. linked.next c i is; there = first.there }

-- a place that is in the list isn't nowhere
pub is_here : (os : List (Option ℕ)) (c place : ℕ) → (place ≡ nowhere) ⊎ Is os c place → place < nowhere → Is os c place
is_here os c place there short = ⊎_elim (λ (none : place ≡ nowhere). absurd (omega (arith, none, short))) (λ (is : Is os c place). is) there

-- the last place of a command is in the list of links
pub last_within : (os : List (Option ℕ)) (next : List ℕ) (ends : ℕ → Option Ends) (c : ℕ) (e : Ends) → AreLinked os next ends → ends c ≡ Some e → e.last < length next
last_within os next ends c e linked known =
    let was : AreEnds os c e.first e.last = linked.ends c e known in
    let within : e.last < length os = is_within os c e.last was.last in
    let count : length next ≡ length os = linked.count in
    omega (arith, within, count)
