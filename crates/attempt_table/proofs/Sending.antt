-- What the table says after an attempt was sent.
use Rattle.std.proofs.Common.{◌≡◌, ◌≢◌, ℕ, ◌+◌, ◌<◌, ◌==◌, true, List, [], ◌∷◌, ◌++◌, Option, Some, None, length, refl, sym, ap, ◌∙◌, subst, arith, inl, inr}
use Rattle.std.specs.Prelude.{slice_get, slice_set}
use Rattle.std.proofs.Math.ListN.{length-append}
use Rattle.std.proofs.lemmas.Bool.{cases_Bool, cases_eq, eqb-true}
use Rattle.std.proofs.lemmas.List.{append-nil}
use Rattle.mid_base.specs.declared.names.CmdId.{CmdId}
use Rattle.mid_base.specs.declared.names.Tag.{Tag}
use Rattle.mid_base.specs.declared.answers.Answer.{Answer}
use Rattle.mid_base.specs.declared.answers.TagState.{TagState}
use Rattle.mid_base.specs.declared.answers.TagState.TheVariants.{Free as TagFree, Armed as TagArmed}
use Rattle.mid_base.specs.declared.entries.Entry.{Entry}
use Rattle.mid_base.specs.declared.entries.Entry.TheVariants.{Sent}
use Rattle.mid_base.specs.declared.host_spec.HostSpec.{HostSpec}
use Rattle.mid_base.specs.Past.{was_sent}
use Rattle.trace_model.specs.Attempts.{attempts, answer}
use Rattle.trace_model.specs.Tags.{sent_with, tag_state, tag_states}
use Rattle.trace_model.specs.Claims.{tag_for, claims_of, claims_among, waiting_claims}
use Rattle.attempt_table.specs.declared.rows.Row.{Row}
use Rattle.attempt_table.specs.Rows.{row_of, next_attempt, sent_row, live_in, keeps_in, tag_in, shown_in}
use Rattle.attempt_table.specs.Claims.{Claim}
use Rattle.attempt_table.specs.AttemptsAgree.{Reads, IsSound, Says}
use Rattle.attempt_table.proofs.Bools.{same, differ}
use Rattle.attempt_table.proofs.Numbers.{countdown_more}
use Rattle.attempt_table.proofs.Places.{row_new, row_last, row_front, tags_set, tags_within}
use Rattle.attempt_table.proofs.Shown.{claims_in, state_is, claims_are, last_was_sent, shown_held, tag_is, live_is_shown}
use Rattle.attempt_table.proofs.Claimed.{among_are, among_same}

module _ (s : HostSpec) (P : List Entry) (table : List Row) (shown : List TagState) (kept : List (Option Answer)) (waiting : List Claim) (lates : List ℕ) (run : Says s P table shown kept waiting lates)
    (c : CmdId) (place : ℕ) (t : Tag) (free : slice_get shown t.0 ≡ Some TagFree) where
  abbrev next : ℕ
  next = length table + 1

  abbrev row : Row
  row = sent_row c place t

  abbrev P' : List Entry
  P' = Sent c (next_attempt table) t ∷ P

  abbrev table' : List Row
  table' = table ++ row ∷ []

  -- the number is new
  at_new : Reads P next None
  at_new = subst (λ (r : Option Row). Reads P next r) (row_new table next refl) (run.rows next)

  fresh : (u : ℕ) → next ≢ sent_with u P
  fresh u e =
      let some : sent_with u P ≢ 0 = λ none. absurd (omega (arith, e, none)) in
      let sent : was_sent next P ≡ true = subst (λ (m : ℕ). was_sent m P ≡ true) (sym e) (last_was_sent u P some) in
      cc (sent, at_new.0)

  reads_next : Reads P' next (Some row)
  reads_next = (
    rw (same next) refl,
    rw (same next) refl,
    rw (same next) refl,
    at_new.3,
    at_new.4,
    at_new.5,
    rw (same next) refl,
    rw (same next) refl,
    at_new.8,
  )

  rows' : (n : ℕ) → Reads P' n (row_of n table')
  rows' n = elim (cases_eq n next) [
    | inl e ↦
        subst (λ (j : ℕ). Reads P' j (row_of j table')) (sym e)
        (subst (λ (r : Option Row). Reads P' next r) (sym (row_last table row next refl)) reads_next)
    | inr ne ↦
        subst (λ (r : Option Row). Reads P' n r) (sym (row_front table row n ne))
        (rw (differ (λ (e : next ≡ n). ne (sym e))) (run.rows n))
  ]

  last_row : (n : ℕ) → n ≡ next → row_of n table' ≡ Some row
  last_row n e = ap (λ (j : ℕ). row_of j table') e ∙ row_last table row next refl

  -- an attempt under way has another tag
  apart : (n : ℕ) → live_in (row_of n table) ≡ true → t.0 ≢ (tag_in (row_of n table)).0
  apart n living e =
      let there = live_is_shown s P table shown kept waiting lates run n living in
      let held : ◌≡◌ {A = Option TagState} (Some TagFree) (Some (shown_in n (row_of n table))) = sym free ∙ (ap (slice_get shown) e ∙ there) in
      let same_state : TagFree ≡ shown_in n (row_of n table) = cc in
      shown_held n (row_of n table) living (sym same_state)

  live' : (n : ℕ) → live_in (row_of n table') ≡ true → sent_with (tag_in (row_of n table')).0 P' ≡ n
  live' n living = elim (cases_eq n next) [
    | inl e ↦ ap (λ (r : Option Row). sent_with (tag_in r).0 P') (last_row n e) ∙ (rw (same t.0) refl ∙ sym e)
    | inr ne ↦
        let front : row_of n table' ≡ row_of n table = row_front table row n ne in
        let before : live_in (row_of n table) ≡ true = sym (ap live_in front) ∙ living in
        ap (λ (r : Option Row). sent_with (tag_in r).0 P') front ∙ rw (differ (apart n before)) (run.live n before)
  ]

  backs' : (u : ℕ) → sent_with u P' ≢ 0 → (tag_for (sent_with u P') P').0 ≡ u
  backs' u some = elim (cases_Bool (t.0 == u)) [
    | inl e ↦
        let last : sent_with u P' ≡ next = rw e refl in
        subst (λ (m : ℕ). (tag_for m P').0 ≡ u) (sym last) (rw (same next) (eqb-true t.0 u e))
    | inr ne ↦
        let last : sent_with u P' ≡ sent_with u P = rw ne refl in
        subst (λ (m : ℕ). (tag_for m P').0 ≡ u) (sym last) (rw (differ (fresh u)) (run.backs u (λ none. some (last ∙ none))))
  ]

  tag_below : t.0 < s.can_queue
  tag_below = tags_within 0 s.can_queue t.0 P TagFree (ap (λ (xs : List TagState). slice_get xs t.0) (sym run.tags) ∙ free)

  below' : (n : ℕ) → live_in (row_of n table') ≡ true → (tag_in (row_of n table')).0 < s.can_queue
  below' n living = elim (cases_eq n next) [
    | inl e ↦ subst (λ (r : Option Row). (tag_in r).0 < s.can_queue) (sym (last_row n e)) tag_below
    | inr ne ↦
        let front : row_of n table' ≡ row_of n table = row_front table row n ne in
        subst (λ (r : Option Row). (tag_in r).0 < s.can_queue) (sym front) (run.below n (sym (ap live_in front) ∙ living))
  ]

  keeps' : (n : ℕ) → keeps_in (row_of n table') ≡ true → slice_get kept (tag_in (row_of n table')).0 ≡ Some (answer n P')
  keeps' n keeps = elim (cases_eq n next) [
    | inl e ↦ let here : keeps_in (Some row) ≡ true = sym (ap keeps_in (last_row n e)) ∙ keeps in cc
    | inr ne ↦
        let front : row_of n table' ≡ row_of n table = row_front table row n ne in
        ap (λ (r : Option Row). slice_get kept (tag_in r).0) front ∙ run.keeps n (sym (ap keeps_in front) ∙ keeps)
  ]

  tag_from : (u m : ℕ) → sent_with u P' ≡ m → tag_state P' u ≡ shown_in m (row_of m table')
  tag_from u m e =
      state_is P' (sent_with u P') (row_of (sent_with u P') table') (rows' (sent_with u P'))
      ∙ ap (λ (k : ℕ). shown_in k (row_of k table')) e

  tags' : slice_set shown t.0 (TagArmed (next_attempt table)) ≡ tag_states s P'
  tags' =
      let last : sent_with t.0 P' ≡ next = rw (same t.0) refl in
      let here : tag_state P' t.0 ≡ TagArmed (next_attempt table) = tag_from t.0 next last ∙ ap (shown_in next) (row_last table row next refl) in
      let others : (v : ℕ) → v ≢ t.0 → tag_state P' v ≡ tag_state P v = λ v ne.
      let before : sent_with v P' ≡ sent_with v P = rw (differ (λ (e : t.0 ≡ v). ne (sym e))) refl in
      tag_from v (sent_with v P) before
      ∙ (ap (shown_in (sent_with v P)) (row_front table row (sent_with v P) (λ e. fresh v (sym e)))
      ∙ sym (tag_is s P table shown kept waiting lates run v))
      in
      ap (λ (xs : List TagState). slice_set xs t.0 (TagArmed (next_attempt table))) run.tags
      ∙ sym (tags_set 0 s.can_queue t.0 t.0 P P' (TagArmed (next_attempt table)) (omega arith) others here)

  unclaimed : (n : ℕ) → claims_in n (row_of n table') ≡ claims_in n (row_of n table)
  unclaimed n = elim (cases_eq n next) [
    | inl e ↦
        let new : row_of n table ≡ None = row_new table n e in
        ap (claims_in n) (last_row n e) ∙ sym (ap (claims_in n) new)
    | inr ne ↦ ap (claims_in n) (row_front table row n ne)
  ]

  claims' : waiting ≡ waiting_claims P'
  claims' =
      let before : ℕ → List Claim = λ n. claims_in n (row_of n table) in
      let after : ℕ → List Claim = λ n. claims_in n (row_of n table') in
      let last : claims_of P' next ≡ [] =
      claims_are P' next (row_of next table') (rows' next)
      ∙ (unclaimed next ∙ ap (claims_in next) (row_new table next refl))
      in
      let earlier : claims_among P' (attempts P) ≡ waiting =
      among_are P' after (attempts P) (λ n. claims_are P' n (row_of n table') (rows' n))
      ∙ (among_same before after (attempts P) unclaimed
      ∙ (sym (among_are P before (attempts P) (λ n. claims_are P n (row_of n table) (run.rows n)))
      ∙ sym run.claims))
      in
      sym (ap (λ (xs : List Claim). claims_among P' (attempts P) ++ xs) last ∙ (append-nil (claims_among P' (attempts P)) ∙ earlier))

  sound' : (n : ℕ) → IsSound (row_of n table')
  sound' n = elim (cases_eq n next) [
    | inl e ↦ subst (λ (x : Option Row). IsSound x) (sym (last_row n e)) (λ owned. cc, λ opened. refl)
    | inr ne ↦ subst (λ (x : Option Row). IsSound x) (sym (row_front table row n ne)) (run.sound n)
  ]

  count' : length table' ≡ length table + 1
  count' = length-append table (row ∷ [])

  pub says_sent : Says s P' table' (slice_set shown t.0 (TagArmed (next_attempt table))) kept waiting lates
  says_sent = record {
    rows = rows';
    sends_are = rw (run.sends_are, count') refl;
    numbers = rw (run.numbers, count', countdown_more (length table)) refl;
    live = live';
    backs = backs';
    below = below';
    tags = tags';
    places = run.places;
    keeps = keeps';
    claims = claims';
    sound = sound';
    lates_are = run.lates_are;
  }
