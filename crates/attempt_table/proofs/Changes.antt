-- What one entry more does to what the table says, by what it does to the rows.
use Rattle.std.proofs.Common.{◌≡◌, ◌≢◌, ℕ, ◌<◌, ◌+◌, true, List, [], Option, Some, length, refl, sym, ap, ◌∙◌, subst, arith, inl, inr}
use Rattle.std.specs.Prelude.{slice_get, slice_set}
use Rattle.std.proofs.lemmas.Bool.{cases_eq}
use Rattle.mid_base.specs.declared.names.Tag.{Tag}
use Rattle.mid_base.specs.declared.answers.Answer.{Answer}
use Rattle.mid_base.specs.declared.answers.TagState.{TagState}
use Rattle.mid_base.specs.declared.entries.Entry.{Entry}
use Rattle.mid_base.specs.declared.host_spec.HostSpec.{HostSpec}
use Rattle.trace_model.specs.Attempts.{attempts, sends, late, answer}
use Rattle.trace_model.specs.Tags.{sent_with, tag_state, tag_states}
use Rattle.trace_model.specs.Claims.{tag_for, waiting_claims}
use Rattle.attempt_table.specs.declared.rows.Row.{Row}
use Rattle.attempt_table.specs.Rows.{row_of, live_in, keeps_in, tag_in, shown_in, Becomes}
use Rattle.attempt_table.specs.Claims.{Claim, claims_with, claims_without}
use Rattle.attempt_table.specs.AttemptsAgree.{countdown, times, Reads, IsSound, Says}
use Rattle.attempt_table.proofs.Places.{row_within, row_here, row_other, rows_length, tags_same, tags_set}
use Rattle.attempt_table.proofs.Shown.{claims_in, state_is, claims_are, not_none, tag_is}
use Rattle.attempt_table.proofs.Claimed.{among, among_are, among_same, among_with, among_without, among_length, none_left, all_left, own_claims}

-- what stays the same where no attempt is sent
pub record IsUnsent (P P' : List Entry) : Type 0 where
  pub sends_are : sends P' ≡ sends P
  pub numbers : attempts P' ≡ attempts P
  pub last : (u : ℕ) → sent_with u P' ≡ sent_with u P
  pub tagged : (n : ℕ) → tag_for n P' ≡ tag_for n P

module _ (s : HostSpec) (P : List Entry) (table : List Row) (shown : List TagState) (kept : List (Option Answer)) (waiting : List Claim) (lates : List ℕ) (run : Says s P table shown kept waiting lates) where
  -- an attempt under way is there
  pub some_number : (n : ℕ) → live_in (row_of n table) ≡ true → n ≢ 0
  some_number n live e = not_none (row_of n table) live (ap (λ (k : ℕ). row_of k table) e)

  -- a tag whose last attempt is under way is the tag of that attempt
  pub own_tag : (n v : ℕ) → live_in (row_of n table) ≡ true → sent_with v P ≡ n → v ≡ (tag_in (row_of n table)).0
  own_tag n v live e =
      let back : (tag_for n P).0 ≡ v = subst (λ (m : ℕ). (tag_for m P).0 ≡ v) e (run.backs v (λ none. some_number n live (sym e ∙ none))) in
      sym back ∙ ap (λ (t : Tag). t.0) (run.rows n).7

  -- two attempts under way have two tags
  pub tags_differ : (n m : ℕ) → live_in (row_of n table) ≡ true → live_in (row_of m table) ≡ true → (tag_in (row_of n table)).0 ≡ (tag_in (row_of m table)).0 → n ≡ m
  tags_differ n m live there e = sym (run.live n live) ∙ (ap (λ (u : ℕ). sent_with u P) e ∙ run.live m there)

  waiting_is : waiting ≡ among (λ k. claims_in k (row_of k table)) (countdown (length table))
  waiting_is =
      run.claims
      ∙ (among_are P (λ k. claims_in k (row_of k table)) (attempts P) (λ k. claims_are P k (row_of k table) (run.rows k))
      ∙ ap (among (λ k. claims_in k (row_of k table))) run.numbers)

  -- how many claims there are without those of an attempt
  pub claims_fewer : (n : ℕ) (r : Row) → row_of n table ≡ Some r → length (claims_without n waiting) + length (claims_in n (row_of n table)) ≡ length waiting
  claims_fewer n r was =
      let within = row_within table n r was in
      let before : ℕ → List Claim = λ k. claims_in k (row_of k table) in
      let after : ℕ → List Claim = λ k. claims_without n (before k) in
      let none : after n ≡ [] = none_left n (before n) (own_claims n (row_of n table)) in
      let others : (k : ℕ) → k ≢ n → after k ≡ before k = λ k ne. all_left n k (before k) (own_claims k (row_of k table)) ne in
      let rest = among_without before after n (countdown (length table)) (λ k. own_claims k (row_of k table)) none others in
      rw (waiting_is, ← rest) (among_length before after n (length table) within.0 within.1 none others)

  module _ (P' : List Entry) (table' : List Row) (rows' : (n : ℕ) → Reads P' n (row_of n table')) where
    tag_now : (u : ℕ) → tag_state P' u ≡ shown_in (sent_with u P') (row_of (sent_with u P') table')
    tag_now u = state_is P' (sent_with u P') (row_of (sent_with u P') table') (rows' (sent_with u P'))

    tag_from : (u m : ℕ) → sent_with u P' ≡ m → tag_state P' u ≡ shown_in m (row_of m table')
    tag_from u m e = tag_now u ∙ ap (λ (k : ℕ). shown_in k (row_of k table')) e

    pub tags_kept : ((u : ℕ) → sent_with u P' ≡ sent_with u P) → ((m : ℕ) → shown_in m (row_of m table') ≡ shown_in m (row_of m table)) → shown ≡ tag_states s P'
    tags_kept last states =
        run.tags ∙ sym (tags_same 0 s.can_queue P P' (λ u le.
        tag_from u (sent_with u P) (last u) ∙ (states (sent_with u P) ∙ sym (tag_is s P table shown kept waiting lates run u))))

    pub claims_kept : attempts P' ≡ attempts P → ((n : ℕ) → claims_in n (row_of n table') ≡ claims_in n (row_of n table)) → waiting ≡ waiting_claims P'
    claims_kept numbers same =
        run.claims
        ∙ (among_are P (λ n. claims_in n (row_of n table)) (attempts P) (λ n. claims_are P n (row_of n table) (run.rows n))
        ∙ (sym (among_same (λ n. claims_in n (row_of n table)) (λ n. claims_in n (row_of n table')) (attempts P) same)
        ∙ (ap (among (λ n. claims_in n (row_of n table'))) (sym numbers)
        ∙ sym (among_are P' (λ n. claims_in n (row_of n table')) (attempts P') (λ n. claims_are P' n (row_of n table') (rows' n))))))

    -- the table where no attempt is sent
    pub says_unsent : (shown' : List TagState) (kept' : List (Option Answer)) (waiting' : List Claim) (lates' : List ℕ) → IsUnsent P P' → length table' ≡ length table
        → ((n : ℕ) → live_in (row_of n table') ≡ true → live_in (row_of n table) ≡ true) → ((n : ℕ) → tag_in (row_of n table') ≡ tag_in (row_of n table))
        → shown' ≡ tag_states s P' → length kept' ≡ length kept
        → ((n : ℕ) → keeps_in (row_of n table') ≡ true → slice_get kept' (tag_in (row_of n table')).0 ≡ Some (answer n P'))
        → waiting' ≡ waiting_claims P' → ((n : ℕ) → IsSound (row_of n table'))
        → ((n : ℕ) → late n P' ≡ times n lates')
        → Says s P' table' shown' kept' waiting' lates'
    says_unsent shown' kept' waiting' lates' still count lives tagged tags' places' keeps' claims' sound' lates_are' = record {
      rows = rows';
      sends_are = still.sends_are ∙ (run.sends_are ∙ sym count);
      numbers = still.numbers ∙ (run.numbers ∙ ap countdown (sym count));
      live = λ n live. still.last (tag_in (row_of n table')).0 ∙ (ap (λ (t : Tag). sent_with t.0 P) (tagged n) ∙ run.live n (lives n live));
      backs = λ u some.
          ap (λ (m : ℕ). (tag_for m P').0) (still.last u)
          ∙ (ap (λ (t : Tag). t.0) (still.tagged (sent_with u P)) ∙ run.backs u (λ none. some (still.last u ∙ none)));
      below = λ n live. subst (λ (t : Tag). t.0 < s.can_queue) (sym (tagged n)) (run.below n (lives n live));
      tags = tags';
      places = places' ∙ run.places;
      keeps = keeps';
      claims = claims';
      sound = sound';
      lates_are = lates_are';
    }

    -- the rows are the same too
    pub says_still : (lates' : List ℕ) → IsUnsent P P' → table' ≡ table → ((n : ℕ) → keeps_in (row_of n table) ≡ true → answer n P' ≡ answer n P)
        → ((n : ℕ) → late n P' ≡ times n lates')
        → Says s P' table' shown kept waiting lates'
    says_still lates' still same answers lates_are' =
        says_unsent shown kept waiting lates' still (ap length same)
        (λ n live. subst (λ (rows : List Row). live_in (row_of n rows) ≡ true) same live)
        (λ n. ap (λ (rows : List Row). tag_in (row_of n rows)) same)
        (tags_kept still.last (λ m. ap (λ (rows : List Row). shown_in m (row_of m rows)) same))
        refl
        (λ n keeps. let before : keeps_in (row_of n table) ≡ true = subst (λ (rows : List Row). keeps_in (row_of n rows) ≡ true) same keeps in
        ap (λ (rows : List Row). slice_get kept (tag_in (row_of n rows)).0) same ∙ (run.keeps n before ∙ ap Some (sym (answers n before))))
        (claims_kept still.numbers (λ n. ap (λ (rows : List Row). claims_in n (row_of n rows)) same))
        (λ n. subst (λ (rows : List Row). IsSound (row_of n rows)) (sym same) (run.sound n))
        lates_are'

    -- an attempt under way has another row, with its tag as before
    module _ (n : ℕ) (f : Row → Row) (h : Becomes n f table table') (live : live_in (row_of n table) ≡ true) (keeps_tag : (f h.row).tag ≡ h.row.tag) where
      pub tags_moved : (y : TagState) → ((u : ℕ) → sent_with u P' ≡ sent_with u P) → shown_in n (Some (f h.row)) ≡ y
          → slice_set shown (tag_in (row_of n table)).0 y ≡ tag_states s P'
      tags_moved y last state =
          let u = (tag_in (row_of n table)).0 in
          let here : tag_state P' u ≡ y = tag_from u n (last u ∙ run.live n live) ∙ (ap (shown_in n) (row_here n f table table' h) ∙ state) in
          let others : (v : ℕ) → v ≢ u → tag_state P' v ≡ tag_state P v = λ v ne.
          tag_from v (sent_with v P) (last v)
          ∙ (ap (shown_in (sent_with v P)) (row_other n f table table' h (sent_with v P) (λ e. ne (own_tag n v live e)))
          ∙ sym (tag_is s P table shown kept waiting lates run v))
          in
          ap (λ (xs : List TagState). slice_set xs u y) run.tags
          ∙ sym (tags_set 0 s.can_queue u u P P' y (omega arith) others here)

      pub tags_unmoved : ((u : ℕ) → sent_with u P' ≡ sent_with u P) → shown_in n (Some (f h.row)) ≡ shown_in n (Some h.row) → shown ≡ tag_states s P'
      tags_unmoved last state = tags_kept last (λ k. elim (cases_eq k n) [
        | inl e ↦
            subst (λ (j : ℕ). shown_in j (row_of j table') ≡ shown_in j (row_of j table)) (sym e)
            (ap (shown_in n) (row_here n f table table' h) ∙ (state ∙ sym (ap (shown_in n) h.was)))
        | inr ne ↦ ap (shown_in k) (row_other n f table table' h k ne)
      ])

      -- the claims, where they are as they were, with one more, and with none
      unmoved : (k : ℕ) → k ≢ n → claims_in k (row_of k table') ≡ claims_in k (row_of k table)
      unmoved k ne = ap (claims_in k) (row_other n f table table' h k ne)

      claims_before : claims_in n (row_of n table) ≡ claims_in n (Some h.row)
      claims_before = ap (claims_in n) h.was

      claims_after : claims_in n (row_of n table') ≡ claims_in n (Some (f h.row))
      claims_after = ap (claims_in n) (row_here n f table table' h)

      pub claims_unmoved : attempts P' ≡ attempts P → claims_in n (Some (f h.row)) ≡ claims_in n (Some h.row) → waiting ≡ waiting_claims P'
      claims_unmoved numbers same =
          claims_kept numbers (λ k. elim (cases_eq k n) [
            | inl e ↦
                subst (λ (j : ℕ). claims_in j (row_of j table') ≡ claims_in j (row_of j table)) (sym e)
                (claims_after ∙ (same ∙ sym claims_before))
            | inr ne ↦ unmoved k ne
          ])

      waiting_now : attempts P' ≡ attempts P → waiting_claims P' ≡ among (λ k. claims_in k (row_of k table')) (countdown (length table))
      waiting_now numbers =
          among_are P' (λ k. claims_in k (row_of k table')) (attempts P') (λ k. claims_are P' k (row_of k table') (rows' k))
          ∙ ap (among (λ k. claims_in k (row_of k table'))) (numbers ∙ run.numbers)

      pub claims_put : (c : Claim) → attempts P' ≡ attempts P → c.1.0 ≡ n → claims_in n (Some (f h.row)) ≡ claims_with c (claims_in n (Some h.row))
          → claims_with c waiting ≡ waiting_claims P'
      claims_put c numbers number more =
          let within = row_within table n h.row h.was in
          let all = among_with (λ k. claims_in k (row_of k table)) (λ k. claims_in k (row_of k table')) c n (length table) within.0 within.1
          (λ k. own_claims k (row_of k table)) (claims_after ∙ (more ∙ ap (claims_with c) (sym claims_before))) number unmoved
          in
          ap (claims_with c) waiting_is ∙ (sym all ∙ sym (waiting_now numbers))

      pub claims_cut : attempts P' ≡ attempts P → claims_in n (Some (f h.row)) ≡ [] → claims_without n waiting ≡ waiting_claims P'
      claims_cut numbers none =
          ap (claims_without n) waiting_is
          ∙ (sym (among_without (λ k. claims_in k (row_of k table)) (λ k. claims_in k (row_of k table')) n (countdown (length table))
          (λ k. own_claims k (row_of k table)) (claims_after ∙ none) unmoved)
          ∙ sym (waiting_now numbers))

      -- the whole table then
      pub says_moved : (shown' : List TagState) (kept' : List (Option Answer)) (waiting' : List Claim) (lates' : List ℕ) → IsUnsent P P'
          → shown' ≡ tag_states s P' → length kept' ≡ length kept
          → ((k : ℕ) → keeps_in (row_of k table') ≡ true → slice_get kept' (tag_in (row_of k table)).0 ≡ Some (answer k P'))
          → waiting' ≡ waiting_claims P' → IsSound (Some (f h.row))
          → ((k : ℕ) → late k P' ≡ times k lates')
          → Says s P' table' shown' kept' waiting' lates'
      says_moved shown' kept' waiting' lates' still tags' places' keeps' claims' sound' lates_are' =
          let tagged : (k : ℕ) → tag_in (row_of k table') ≡ tag_in (row_of k table) = λ k. elim (cases_eq k n) [
            | inl e ↦
                subst (λ (j : ℕ). tag_in (row_of j table') ≡ tag_in (row_of j table)) (sym e)
                (ap tag_in (row_here n f table table' h) ∙ (keeps_tag ∙ sym (ap tag_in h.was)))
            | inr ne ↦ ap tag_in (row_other n f table table' h k ne)
          ] in
          says_unsent shown' kept' waiting' lates' still (rows_length n f table table' h)
          (λ k living. elim (cases_eq k n) [
            | inl e ↦ subst (λ (j : ℕ). live_in (row_of j table) ≡ true) (sym e) live
            | inr ne ↦ sym (ap live_in (row_other n f table table' h k ne)) ∙ living
          ])
          tagged tags' places'
          (λ k keeps. ap (λ (t : Tag). slice_get kept' t.0) (tagged k) ∙ keeps' k keeps)
          claims'
          (λ k. elim (cases_eq k n) [
            | inl e ↦ subst (λ (j : ℕ). IsSound (row_of j table')) (sym e) (subst (λ (x : Option Row). IsSound x) (sym (row_here n f table table' h)) sound')
            | inr ne ↦ subst (λ (x : Option Row). IsSound x) (sym (row_other n f table table' h k ne)) (run.sound k)
          ])
          lates_are'

      -- answers that were there, where no attempt has a new one
      pub keeps_moved : ((k : ℕ) → answer k P' ≡ answer k P) → (keeps_in (Some (f h.row)) ≡ true → keeps_in (Some h.row) ≡ true)
          → (k : ℕ) → keeps_in (row_of k table') ≡ true → slice_get kept (tag_in (row_of k table)).0 ≡ Some (answer k P')
      keeps_moved answers before k keeps =
          let was : keeps_in (row_of k table) ≡ true = elim (cases_eq k n) [
            | inl e ↦
                let here : keeps_in (row_of n table') ≡ true = subst (λ (j : ℕ). keeps_in (row_of j table') ≡ true) e keeps in
                subst (λ (j : ℕ). keeps_in (row_of j table) ≡ true) (sym e)
                (ap keeps_in h.was ∙ before (sym (ap keeps_in (row_here n f table table' h)) ∙ here))
            | inr ne ↦ sym (ap keeps_in (row_other n f table table' h k ne)) ∙ keeps
          ] in
          run.keeps k was ∙ ap Some (sym (answers k))

  -- the rows after a change, each as the journal has it
  pub reads_moved : (P' : List Entry) (table' : List Row) (n : ℕ) (f : Row → Row) (h : Becomes n f table table') → Reads P' n (Some (f h.row))
      → ((k : ℕ) → k ≢ n → Reads P' k (row_of k table)) → (k : ℕ) → Reads P' k (row_of k table')
  reads_moved P' table' n f h here others k = elim (cases_eq k n) [
    | inl e ↦
        subst (λ (j : ℕ). Reads P' j (row_of j table')) (sym e)
        (subst (λ (r : Option Row). Reads P' n r) (sym (row_here n f table table' h)) here)
    | inr ne ↦ subst (λ (r : Option Row). Reads P' k r) (sym (row_other n f table table' h k ne)) (others k ne)
  ]
