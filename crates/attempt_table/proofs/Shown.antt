-- What the states of tags and the claims come to by the rows.
use Rattle.std.proofs.Common.{◌≡◌, ◌≢◌, ℕ, ◌≤◌, ◌==◌, Bool, true, false, not, ◌&&◌, ◌||◌, cond, List, [], ◌∷◌, ◌++◌, Option, Some, None, is_some, length, refl, sym, ap, ◌∙◌, subst, arith, inl, inr}
use Rattle.std.specs.Prelude.{slice_get}
use Rattle.std.proofs.lemmas.Bool.{cases_Bool}
use Rattle.mid_base.specs.declared.names.Attempt.{Attempt}
use Rattle.mid_base.specs.declared.names.Tag.{Tag}
use Rattle.mid_base.specs.declared.answers.By.{By}
use Rattle.mid_base.specs.declared.answers.By.TheVariants.{Answer as ByAnswer, Expiry as ByExpiry}
use Rattle.mid_base.specs.declared.answers.TagState.{TagState}
use Rattle.mid_base.specs.declared.answers.TagState.TheVariants.{Free as TagFree, Armed as TagArmed}
use Rattle.mid_base.specs.declared.answers.Answer.{Answer}
use Rattle.mid_base.specs.declared.entries.Entry.{Entry}
use Rattle.mid_base.specs.declared.entries.Entry.TheVariants as entry
use Rattle.mid_base.specs.declared.host_spec.HostSpec.{HostSpec}
use Rattle.mid_base.specs.Past.{was_sent}
use Rattle.trace_model.specs.Attempts.{is_open, owner, is_settled, is_due}
use Rattle.trace_model.specs.Tags.{sent_with, state_by, tag_state, tags_from}
use Rattle.trace_model.specs.Claims.{claims_of}
use Rattle.attempt_table.specs.declared.rows.Row.{Row}
use Rattle.attempt_table.specs.Rows.{row_of, open_in, answered_in, due_in, settled_in, owner_in, live_in, claims_by, tag_in, shown_in}
use Rattle.attempt_table.specs.Claims.{Claim}
use Rattle.attempt_table.specs.AttemptsAgree.{Reads, Says}
use Rattle.attempt_table.proofs.Bools.{same, and_first}
use Rattle.attempt_table.proofs.Places.{tags_get, tags_within}

abbrev pub claims_in : ℕ → Option Row → List Claim
claims_in n x =
    cond (open_in x && answered_in x) ((tag_in x, record { 0 = n }, ByAnswer) ∷ []) []
    ++ cond (open_in x && due_in x) ((tag_in x, record { 0 = n }, ByExpiry) ∷ []) []

abbrev claims_by_tests : By → (o t d : Bool) → Bool
claims_by_tests ByAnswer o t d = o && t
claims_by_tests ByExpiry o t d = o && d

pub state_is : (P : List Entry) (m : ℕ) (x : Option Row) → Reads P m x
    → state_by m (is_open m P) (is_settled m P) (owner m P) ≡ shown_in m x
state_is P m x reads = rw (reads.1, reads.4, reads.5) refl

pub claims_are : (P : List Entry) (n : ℕ) (x : Option Row) → Reads P n x → claims_of P n ≡ claims_in n x
claims_are P n x reads =
    let due : is_open n P && is_due n P ≡ open_in x && due_in x = rw (reads.1, reads.8) refl in
    rw (reads.2, due, reads.7) refl

-- a tag's last attempt was sent
pub last_was_sent : (u : ℕ) (P : List Entry) → sent_with u P ≢ 0 → was_sent (sent_with u P) P ≡ true
last_was_sent u [] some = absurd (some refl)
last_was_sent u (entry.Sent c n t ∷ P) some = elim (cases_Bool (t.0 == u)) [
  | inl is ↦
      let last : sent_with u (entry.Sent c n t ∷ P) ≡ n.0 = rw is refl in
      subst (λ (m : ℕ). was_sent m (entry.Sent c n t ∷ P) ≡ true) (sym last) (rw (same n.0) refl)
  | inr isnt ↦
      let last : sent_with u (entry.Sent c n t ∷ P) ≡ sent_with u P = rw isnt refl in
      let before : was_sent (sent_with u P) P ≡ true = last_was_sent u P (λ e. some (last ∙ e)) in
      subst (λ (m : ℕ). was_sent m (entry.Sent c n t ∷ P) ≡ true) (sym last) (or_before (n.0 == sent_with u P) (was_sent (sent_with u P) P) before)
]
  where
    or_before : (b w : Bool) → w ≡ true → cond b true w ≡ true
    or_before true w h = refl
    or_before false w h = h
last_was_sent u (e ∷ P) some = last_was_sent u P some

-- which tags are shown
shown_by : (m : ℕ) (o s : Bool) (w : Option By) → state_by m o s w ≢ TagFree → o || (not o && not s && is_some w) ≡ true
shown_by m true s w held = refl
shown_by m false true w held = absurd (held refl)
shown_by m false false None held = absurd (held refl)
shown_by m false false (Some by) held = refl

held_by : (m : ℕ) (o s : Bool) (w : Option By) → o || (not o && not s && is_some w) ≡ true → state_by m o s w ≢ TagFree
held_by m true s w live e = cc
held_by m false true w live e = cc
held_by m false false None live e = cc
held_by m false false (Some by) live e = cc

pub held_row : (m : ℕ) (x : Option Row) → shown_in m x ≢ TagFree → live_in x ≡ true
held_row m x held = shown_by m (open_in x) (settled_in x) (owner_in x) held

pub shown_held : (m : ℕ) (x : Option Row) → live_in x ≡ true → shown_in m x ≢ TagFree
shown_held m x live = held_by m (open_in x) (settled_in x) (owner_in x) live

pub not_none : (x : Option Row) → live_in x ≡ true → x ≢ None
not_none None live e = cc
not_none (Some r) live e = cc

pub open_shown : (n : ℕ) (x : Option Row) → open_in x ≡ true → (live_in x ≡ true) × (shown_in n x ≡ TagArmed (record { 0 = n }))
open_shown n x opened = rw opened (refl, refl)

armed_by : (n : ℕ) (m : Attempt) (o e : Bool) (w : Option By) → state_by n o e w ≡ TagArmed m → (o ≡ true) × (n ≡ m.0)
armed_by n m true e w h = let number : ◌≡◌ {A = Attempt} (record { 0 = n }) m = cc in (refl, ap (λ (k : Attempt). k.0) number)
armed_by n m false true w h = cc
armed_by n m false false None h = cc
armed_by n m false false (Some by) h = cc

pub armed_open : (n : ℕ) (x : Option Row) (m : Attempt) → shown_in n x ≡ TagArmed m → (open_in x ≡ true) × (n ≡ m.0)
armed_open n x m h = armed_by n m (open_in x) (settled_in x) (owner_in x) h

pub claimed_open : (by : By) (x : Option Row) → claims_by by x ≡ true → open_in x ≡ true
claimed_open ByAnswer x h = and_first (open_in x) (answered_in x) h
claimed_open ByExpiry x h = and_first (open_in x) (due_in x) h

same_claims : (by : By) (x : Option Row) → claims_by_tests by (open_in x) (answered_in x) (due_in x) ≡ claims_by by x
same_claims ByAnswer x = refl
same_claims ByExpiry x = refl

pub some_claim : (n : ℕ) (by : By) (x : Option Row) → claims_by by x ≡ true → 1 ≤ length (claims_in n x)
some_claim n by x h = by_tests by (open_in x) (answered_in x) (due_in x) (same_claims by x ∙ h)
  where
    by_tests : (by : By) (o t d : Bool) → claims_by_tests by o t d ≡ true
        → 1 ≤ length {A = Claim} (cond (o && t) ((tag_in x, record { 0 = n }, ByAnswer) ∷ []) [] ++ cond (o && d) ((tag_in x, record { 0 = n }, ByExpiry) ∷ []) [])
    by_tests ByAnswer true true d h = omega arith
    by_tests ByAnswer true false d h = cc
    by_tests ByAnswer false t d h = cc
    by_tests ByExpiry true true true h = omega arith
    by_tests ByExpiry true false true h = omega arith
    by_tests ByExpiry true t false h = cc
    by_tests ByExpiry false t d h = cc

module _ (s : HostSpec) (P : List Entry) (table : List Row) (shown : List TagState) (kept : List (Option Answer)) (waiting : List Claim) (lates : List ℕ) (run : Says s P table shown kept waiting lates) where
  pub tag_is : (u : ℕ) → tag_state P u ≡ shown_in (sent_with u P) (row_of (sent_with u P) table)
  tag_is u = state_is P (sent_with u P) (row_of (sent_with u P) table) (run.rows (sent_with u P))

  -- the tag of an attempt under way says so
  pub live_state : (n : ℕ) → live_in (row_of n table) ≡ true → tag_state P (tag_in (row_of n table)).0 ≡ shown_in n (row_of n table)
  live_state n live =
      subst (λ (m : ℕ). tag_state P (tag_in (row_of n table)).0 ≡ shown_in m (row_of m table)) (run.live n live) (tag_is (tag_in (row_of n table)).0)

  pub live_is_shown : (n : ℕ) → live_in (row_of n table) ≡ true → slice_get shown (tag_in (row_of n table)).0 ≡ Some (shown_in n (row_of n table))
  live_is_shown n live =
      let u = (tag_in (row_of n table)).0 in
      ap (λ (xs : List TagState). slice_get xs u) run.tags
      ∙ (tags_get 0 s.can_queue u u P (omega arith) (run.below n live) ∙ ap Some (live_state n live))

  pub claimed_is_armed : (n : ℕ) (by : By) → claims_by by (row_of n table) ≡ true → slice_get shown (tag_in (row_of n table)).0 ≡ Some (TagArmed (record { 0 = n }))
  claimed_is_armed n by claimed =
      let held = open_shown n (row_of n table) (claimed_open by (row_of n table) claimed) in live_is_shown n held.0 ∙ ap Some held.1

  -- the attempt of a tag that is held
  pub held_state : (u : ℕ) (x : TagState) → slice_get shown u ≡ Some x → tag_state P u ≡ x
  held_state u x there =
      let got : slice_get (tags_from 0 s.can_queue P) u ≡ Some x = ap (λ (xs : List TagState). slice_get xs u) (sym run.tags) ∙ there in
      let at : slice_get (tags_from 0 s.can_queue P) u ≡ Some (tag_state P u) = tags_get 0 s.can_queue u u P (omega arith) (tags_within 0 s.can_queue u P x got) in
      cc

  pub held_has_attempt : (u : ℕ) (x : TagState) → slice_get shown u ≡ Some x → x ≢ TagFree
      → (n : ℕ) × (live_in (row_of n table) ≡ true) × ((tag_in (row_of n table)).0 ≡ u)
  held_has_attempt u x there held =
      let n = sent_with u P in
      let live : live_in (row_of n table) ≡ true = held_row n (row_of n table) (λ e. held (sym (held_state u x there) ∙ (tag_is u ∙ e))) in
      let some : n ≢ 0 = λ e. not_none (row_of n table) live (ap (λ (k : ℕ). row_of k table) e) in
      (n, live, ap (λ (t : Tag). t.0) (sym (run.rows n).7) ∙ run.backs u some)
