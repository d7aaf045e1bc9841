-- The list of the attempts that have an owner and aren't settled, after each change of a row.
use Rattle.std.proofs.Common.{◌≡◌, ◌≢◌, ℕ, zero, suc, ◌+◌, ◌<◌, Bool, true, false, not, ◌&&◌, cond, List, [], ◌∷◌, ◌++◌, Option, Some, None, is_some, length, refl, sym, ap, ◌∙◌, subst, arith, inl, inr}
use Rattle.std.proofs.lemmas.Bool.{cases_eq}
use Rattle.mid_base.specs.declared.answers.By.{By}
use Rattle.mid_base.specs.declared.entries.Entry.{Entry}
use Rattle.attempt_table.specs.declared.rows.Row.{Row}
use Rattle.attempt_table.specs.Rows.{row_of, turned_away, at_end, open_in, settled_in, owner_in, owned_in, just_sent_in, claims_by, Becomes}
use Rattle.attempt_table.specs.Claims.{is_unsettled}
use Rattle.attempt_table.specs.AttemptsAgree.{times, Reads, IsSound, ListsOwned, IsLessOne}
use Rattle.attempt_table.proofs.Bools.{same, differ}
use Rattle.attempt_table.proofs.Numbers.{times_more}
use Rattle.attempt_table.proofs.Shown.{claimed_open}
use Rattle.attempt_table.proofs.Places.{row_here, row_other, row_new, row_last, row_front}

-- an attempt whose row is known stands so often
listed_at : (table : List Row) (owned : List ℕ) → ListsOwned table owned → (n : ℕ) (x : Option Row) (b : Bool) → row_of n table ≡ x → owned_in x ≡ b → times n owned ≡ cond b 1 0
listed_at table owned lists n x b there is = lists n ∙ ap (λ (y : Option Row). cond (owned_in y) 1 0) there ∙ ap (λ (a : Bool). cond a 1 0) is

-- the empty journal
pub listed_none : ListsOwned [] []
listed_none zero = refl
listed_none (suc n) = refl

-- one row more, of an attempt without an owner
pub listed_sent : (table : List Row) (owned : List ℕ) → ListsOwned table owned → (row : Row) → owned_in (Some row) ≡ false → ListsOwned (table ++ row ∷ []) owned
listed_sent table owned lists row none k = elim (cases_eq k (length table + 1)) [
  | inl e ↦
      listed_at table owned lists k None false (row_new table k e) refl
      ∙ sym (ap (λ (y : Option Row). cond (owned_in y) 1 0) (row_last table row k e) ∙ ap (λ (a : Bool). cond a 1 0) none)
  | inr ne ↦ lists k ∙ sym (ap (λ (y : Option Row). cond (owned_in y) 1 0) (row_front table row k ne))
]

module _ (table : List Row) (owned : List ℕ) (lists : ListsOwned table owned) (n : ℕ) (f : Row → Row) (table' : List Row) (h : Becomes n f table table') where
  others : (k : ℕ) → k ≢ n → times k owned ≡ cond (owned_in (row_of k table')) 1 0
  others k ne = lists k ∙ sym (ap (λ (y : Option Row). cond (owned_in y) 1 0) (row_other n f table table' h k ne))

  here : (b : Bool) → owned_in (Some (f h.row)) ≡ b → ◌≡◌ {A = ℕ} (cond (owned_in (row_of n table')) 1 0) (cond b 1 0)
  here b is = ap (λ (y : Option Row). cond (owned_in y) 1 0) (row_here n f table table' h) ∙ ap (λ (a : Bool). cond a 1 0) is

  -- the attempt has an owner as before
  pub listed_still : owned_in (Some (f h.row)) ≡ owned_in (Some h.row) → ListsOwned table' owned
  listed_still still k = elim (cases_eq k n) [
    | inl e ↦
        subst (λ (j : ℕ). times j owned ≡ cond (owned_in (row_of j table')) 1 0) (sym e)
        (listed_at table owned lists n (Some h.row) (owned_in (Some h.row)) h.was refl ∙ sym (here (owned_in (Some h.row)) still))
    | inr ne ↦ others k ne
  ]

  -- it comes to its owner
  pub listed_more : owned_in (Some h.row) ≡ false → owned_in (Some (f h.row)) ≡ true → ListsOwned table' (owned ++ n ∷ [])
  listed_more before after k = elim (cases_eq k n) [
    | inl e ↦
        let none : times n owned ≡ 0 = listed_at table owned lists n (Some h.row) false h.was before in
        subst (λ (j : ℕ). times j (owned ++ n ∷ []) ≡ cond (owned_in (row_of j table')) 1 0) (sym e)
        (times_more n n owned ∙ rw (same n, none) (sym (here true after)))
    | inr ne ↦ times_more k n owned ∙ rw (differ (λ (e : n ≡ k). ne (sym e))) (others k ne)
  ]

  -- it comes to its end
  pub listed_less : (owned' : List ℕ) → IsLessOne n owned owned' → owned_in (Some h.row) ≡ true → owned_in (Some (f h.row)) ≡ false → ListsOwned table' owned'
  listed_less owned' less before after k = elim (cases_eq k n) [
    | inl e ↦
        let one : times n owned ≡ 1 = listed_at table owned lists n (Some h.row) true h.was before in
        subst (λ (j : ℕ). times j owned' ≡ cond (owned_in (row_of j table')) 1 0) (sym e)
        (less n ∙ rw (same n, one) (sym (here false after)))
    | inr ne ↦ less k ∙ rw (differ (λ (e : n ≡ k). ne (sym e))) (others k ne)
  ]

-- who has an owner before and after an entry
pub fresh_still : (r : Row) → just_sent_in (Some r) ≡ true → owned_in (Some (turned_away r)) ≡ owned_in (Some r)
fresh_still r fresh = by_fields r.out r.answered r.due r.settled r.owner fresh
  where
    by_fields : (o t d e : Bool) (w : Option By) → o && not t && not d && not (is_some w) ≡ true → not false && not e && is_some w ≡ not o && not e && is_some w
    by_fields true false false true None h = refl
    by_fields true false false false None h = refl
    by_fields true false false e (Some by) h = cc
    by_fields true false true e w h = cc
    by_fields true true d e w h = cc
    by_fields false t d e w h = cc

pub claimed_row : (by : By) (r : Row) → claims_by by (Some r) ≡ true → owned_in (Some r) ≡ false
claimed_row by r claims = rw (claimed_open by (Some r) claims) refl

pub ended_row : (r : Row) → owned_in (Some (at_end r)) ≡ false
ended_row r = by_test r.out
  where
    by_test : (o : Bool) → not o && not true && is_some r.owner ≡ false
    by_test true = refl
    by_test false = refl

-- who has an owner and isn't settled, by its row
pub unsettled_in : (P : List Entry) (n : ℕ) (x : Option Row) → Reads P n x → IsSound x → is_unsettled n P ≡ owned_in x
unsettled_in P n x reads sound = rw (reads.4, reads.5) (by_tests (open_in x) (settled_in x) (owner_in x) sound.1)
  where
    by_tests : (o e : Bool) (w : Option By) → (o ≡ true → w ≡ None) → is_some w && not e ≡ not o && not e && is_some w
    by_tests true e None h = refl
    by_tests true e (Some by) h = let none : ◌≡◌ {A = Option By} (Some by) None = h refl in cc
    by_tests false true None h = refl
    by_tests false true (Some by) h = refl
    by_tests false false None h = refl
    by_tests false false (Some by) h = refl

-- what stands in the list is owned, and what doesn't isn't
pub listed_is : (b : Bool) (k : ℕ) → k ≡ cond b 1 0 → 0 < k → b ≡ true
listed_is true k e some = refl
listed_is false k e some = absurd (omega (arith, e, some))

pub unlisted_is : (b : Bool) (k : ℕ) → k ≡ cond b 1 0 → k ≡ 0 → b ≡ false
unlisted_is true k e none = absurd (omega (arith, e, none))
unlisted_is false k e none = refl
