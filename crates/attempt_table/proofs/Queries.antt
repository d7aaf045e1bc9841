-- What the table's queries come to by the journal.
use Rattle.std.proofs.Common.{◌≡◌, ℕ, zero, suc, ◌+◌, ◌==◌, Bool, true, false, not, ◌&&◌, ◌||◌, cond, List, [], ◌∷◌, ◌++◌, Option, Some, None, length, refl, sym, ◌∙◌, subst, arith, inl, inr}
use Rattle.std.specs.Prelude.{is_some, option_map, pred, nat_lt, replicate}
use Rattle.std.specs.List.{list_any}
use Rattle.std.proofs.lemmas.Bool.{cases_Bool, eqb-true, lt-ltb, ltb-true}
use Rattle.mid_base.specs.declared.names.Attempt.{Attempt}
use Rattle.mid_base.specs.declared.names.Tag.{Tag}
use Rattle.mid_base.specs.declared.answers.Answer.{Answer}
use Rattle.mid_base.specs.declared.answers.By.{By}
use Rattle.mid_base.specs.declared.answers.By.TheVariants.{Answer as ByAnswer, Expiry as ByExpiry}
use Rattle.mid_base.specs.declared.answers.TagState.{TagState}
use Rattle.mid_base.specs.declared.answers.TagState.TheVariants.{Free as TagFree}
use Rattle.mid_base.specs.declared.entries.Entry.{Entry}
use Rattle.mid_base.specs.declared.entries.Entry.TheVariants as entry
use Rattle.mid_base.specs.declared.host_spec.HostSpec.{HostSpec}
use Rattle.mid_base.specs.Answers.{with_sense}
use Rattle.trace_model.specs.Attempts.{is_open, is_answered, answer, answered, late, is_due}
use Rattle.trace_model.specs.Flush.{is_empty}
use Rattle.trace_model.specs.Tags.{tags_from}
use Rattle.trace_model.specs.Claims.{tag_for, claims_of, claims_among}
use Rattle.attempt_table.specs.declared.rows.Row.{Row}
use Rattle.attempt_table.specs.Rows.{row_of, live_in, keeps_in}
use Rattle.attempt_table.specs.Claims.{waits_for, is_by}
use Rattle.attempt_table.specs.AttemptsAgree.{times, Reads, IsSound, Says}
use Rattle.attempt_table.proofs.Bools.{same}

-- the empty journal
reads_none : (n : ℕ) (x : Option Row) → x ≡ None → Reads [] n x
reads_none n None e = (refl, refl, refl, refl, refl, refl, refl, refl, refl)
reads_none n (Some r) e = cc

no_row : (n : ℕ) → row_of n [] ≡ None
no_row zero = refl
no_row (suc n) = refl

all_free : (t q : ℕ) → tags_from t q [] ≡ replicate q TagFree
all_free t zero = refl
all_free t (suc q) = rw (all_free (t + 1) q) refl

none_live : (x : Option Row) → x ≡ None → live_in x ≡ true → ⊥
none_live None e live = cc
none_live (Some r) e live = cc

none_keeps : (x : Option Row) → x ≡ None → keeps_in x ≡ true → ⊥
none_keeps None e keeps = cc
none_keeps (Some r) e keeps = cc

none_owned : (x : Option Row) → x ≡ None → IsSound x
none_owned None e = (λ owned. cc, λ opened. refl)
none_owned (Some r) e = cc

pub says_nothing : (s : HostSpec) (shown : List TagState) (kept : List (Option Answer)) → shown ≡ replicate s.can_queue TagFree → length kept ≡ s.can_queue → Says s [] [] shown kept [] []
says_nothing s shown kept free places = record {
  rows = λ n. reads_none n (row_of n []) (no_row n);
  sends_are = refl;
  numbers = refl;
  live = λ n live. absurd (none_live (row_of n []) (no_row n) live);
  backs = λ u some. absurd (some refl);
  below = λ n live. absurd (none_live (row_of n []) (no_row n) live);
  tags = free ∙ sym (all_free 0 s.can_queue);
  places = places;
  keeps = λ n keeps. absurd (none_keeps (row_of n []) (no_row n) keeps);
  claims = refl;
  sound = λ n. none_owned (row_of n []) (no_row n);
  lates_are = λ n. refl;
}

any_none : {A : Type 0} (f : A → Bool) (xs : List A) → ((x : A) → f x ≡ false) → list_any f xs ≡ false
any_none f [] h = refl
any_none f (x ∷ xs) h = rw (h x) (any_none f xs h)

-- late answers
any_member : (f : ℕ → Bool) (n : ℕ) (xs : List ℕ) → list_any (λ m. m == n) xs ≡ true → f n ≡ true → list_any f xs ≡ true
any_member f n [] has h = has
any_member f n (x ∷ xs) has h = elim (cases_Bool (x == n)) [
  | inl is ↦ let e : f x ≡ true = subst (λ (j : ℕ). f j ≡ true) (sym (eqb-true x n is)) h in rw e refl
  | inr isnt ↦ let rest : list_any (λ m. m == n) xs ≡ true = rw isnt at has in or_later (f x) (list_any f xs) (any_member f n xs rest h)
]
  where
    or_later : (a b : Bool) → b ≡ true → a || b ≡ true
    or_later true b h = refl
    or_later false b h = h

-- an attempt with an answer, or a late one, is among those that an answer names
some_below : (f : Answer → Answer) (o : Option Answer) → is_some (option_map f o) ≡ true → is_some o ≡ true
some_below f None h = h
some_below f (Some a) h = refl

answer_named : (n : ℕ) (P : List Entry) → is_some (answer n P) ≡ true → list_any (λ m. m == n) (answered P) ≡ true
answer_named n [] h = cc
answer_named n (entry.Ready m a ∷ P) h = elim (cases_Bool (m.0 == n)) [
  | inl is ↦ rw is refl
  | inr isnt ↦ let rest : is_some (answer n P) ≡ true = rw isnt at h in rw isnt (answer_named n P rest)
]
answer_named n (entry.Sensed c m b ∷ P) h = elim (cases_Bool (m.0 == n)) [
  | inl is ↦ answer_named n P (some_below (with_sense b) (answer n P) (rw is at h))
  | inr isnt ↦ let rest : is_some (answer n P) ≡ true = rw isnt at h in answer_named n P rest
]
answer_named n (e ∷ P) h = answer_named n P h

positive_pred : (n : ℕ) → nat_lt 0 (pred n) ≡ true → nat_lt 0 n ≡ true
positive_pred n h = lt-ltb 0 n (omega (arith, ltb-true 0 (pred n) h))

late_named : (n : ℕ) (P : List Entry) → nat_lt 0 (late n P) ≡ true → list_any (λ m. m == n) (answered P) ≡ true
late_named n [] h = cc
late_named n (entry.Ready m a ∷ P) h = elim (cases_Bool (m.0 == n)) [
  | inl is ↦ rw is refl
  | inr isnt ↦ let rest : nat_lt 0 (late n P) ≡ true = rw isnt at h in rw isnt (late_named n P rest)
]
late_named n (entry.Owned m ByExpiry ∷ P) h = elim (cases_Bool (m.0 == n)) [
  | inl is ↦ elim (cases_Bool (is_some (answer n P))) [
    | inl some ↦ answer_named n P some
    | inr none ↦ let rest : nat_lt 0 (late n P) ≡ true = rw (is, none) at h in late_named n P rest
  ]
  | inr isnt ↦ let rest : nat_lt 0 (late n P) ≡ true = rw isnt at h in late_named n P rest
]
late_named n (entry.Owned m ByAnswer ∷ P) h = late_named n P h
late_named n (entry.Late m ∷ P) h = elim (cases_Bool (m.0 == n)) [
  | inl is ↦ late_named n P (positive_pred (late n P) (rw is at h))
  | inr isnt ↦ let rest : nat_lt 0 (late n P) ≡ true = rw isnt at h in late_named n P rest
]
late_named n (e ∷ P) h = late_named n P h

pub late_some : (P : List Entry) (strays : List ℕ) → ((n : ℕ) → late n P ≡ times n strays) → list_any (λ n. nat_lt 0 (late n P)) (answered P) ≡ not (is_empty strays)
late_some P [] h = any_none (λ n. nat_lt 0 (late n P)) (answered P) (λ n. rw (h n) refl)
late_some P (m ∷ ms) h =
    let one : late m P ≡ times m ms + 1 = h m ∙ rw (same m) refl in
    let some : nat_lt 0 (late m P) ≡ true = lt-ltb 0 (late m P) (omega (arith, one)) in
    any_member (λ n. nat_lt 0 (late n P)) m (answered P) (late_named m P some) some

-- claims
any_both : {A : Type 0} (f : A → Bool) (xs ys : List A) → list_any f (xs ++ ys) ≡ list_any f xs || list_any f ys
any_both f [] ys = refl
any_both f (x ∷ xs) ys = rw (any_both f xs ys) (by_test (f x) (list_any f xs) (list_any f ys))
  where
    by_test : (a b c : Bool) → a || (b || c) ≡ (a || b) || c
    by_test true b c = refl
    by_test false b c = refl

abbrev wanted : By → (o t d : Bool) → Bool
wanted ByAnswer o t d = o && t
wanted ByExpiry o t d = o && d

one_claim : (P : List Entry) (by : By) (n : ℕ) → list_any (is_by by) (claims_of P n) ≡ waits_for P by n
one_claim P by n = by_tests (tag_for n P) (record { 0 = n }) by (is_open n P) (is_answered n P) (is_due n P) ∙ wants by
  where
    wants : (by : By) → wanted by (is_open n P) (is_answered n P) (is_due n P) ≡ waits_for P by n
    wants ByAnswer = refl
    wants ByExpiry = refl

    by_tests : (u : Tag) (m : Attempt) (by : By) (o t d : Bool)
        → list_any (is_by by) (cond (o && t) ((u, m, ByAnswer) ∷ []) [] ++ cond (o && d) ((u, m, ByExpiry) ∷ []) []) ≡ wanted by o t d
    by_tests u m ByAnswer true true true = refl
    by_tests u m ByAnswer true true false = refl
    by_tests u m ByAnswer true false true = refl
    by_tests u m ByAnswer true false false = refl
    by_tests u m ByAnswer false t d = refl
    by_tests u m ByExpiry true true true = refl
    by_tests u m ByExpiry true true false = refl
    by_tests u m ByExpiry true false true = refl
    by_tests u m ByExpiry true false false = refl
    by_tests u m ByExpiry false t d = refl

pub claim_some : (P : List Entry) (by : By) (ns : List ℕ) → list_any (waits_for P by) ns ≡ list_any (is_by by) (claims_among P ns)
claim_some P by [] = refl
claim_some P by (n ∷ ns) =
    rw (claim_some P by ns, any_both (is_by by) (claims_among P ns) (claims_of P n), one_claim P by n) (either (waits_for P by n) (list_any (is_by by) (claims_among P ns)))
  where
    either : (a b : Bool) → a || b ≡ b || a
    either true true = refl
    either true false = refl
    either false true = refl
    either false false = refl
