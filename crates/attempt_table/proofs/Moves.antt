-- What each entry does to what the table says.
use Rattle.std.proofs.Common.{◌≡◌, ◌≢◌, ℕ, ◌+◌, ◌<◌, ◌==◌, Bool, true, false, not, ◌&&◌, ◌||◌, cond, List, [], ◌∷◌, ◌++◌, Option, Some, None, is_some, pred, length, refl, sym, ap, ◌∙◌, subst, arith, inl, inr}
use Rattle.std.specs.Prelude.{slice_get, slice_set, nat_lt}
use Rattle.std.proofs.Math.ListN.{length-set}
use Rattle.std.proofs.lemmas.Bool.{cases_Bool, cases_eq, eqb-true, eq-eqb, le-ltb}
use Rattle.mid_base.specs.declared.names.Attempt.{Attempt}
use Rattle.mid_base.specs.declared.names.CmdId.{CmdId}
use Rattle.mid_base.specs.declared.names.Tag.{Tag}
use Rattle.mid_base.specs.declared.answers.Answer.{Answer}
use Rattle.mid_base.specs.declared.answers.BusyOf.{BusyOf}
use Rattle.mid_base.specs.declared.answers.By.{By}
use Rattle.mid_base.specs.declared.answers.By.TheVariants.{Answer as ByAnswer, Expiry as ByExpiry}
use Rattle.mid_base.specs.declared.answers.TagState.{TagState}
use Rattle.mid_base.specs.declared.answers.TagState.TheVariants.{Free as TagFree, Owned as TagOwned}
use Rattle.mid_base.specs.declared.entries.Entry.{Entry}
use Rattle.mid_base.specs.declared.entries.Entry.TheVariants as entry
use Rattle.mid_base.specs.declared.host_spec.HostSpec.{HostSpec}
use Rattle.mid_base.specs.Answers.{with_sense}
use Rattle.trace_model.specs.Tags.{state_by}
use Rattle.trace_model.specs.Attempts.{is_open, is_answered, is_wanted, is_settled, answer, late}
use Rattle.attempt_table.specs.declared.rows.Row.{Row}
use Rattle.attempt_table.specs.Rows.{row_of, turned_away, with_answer, expired, given_to, at_end, open_in, answered_in, due_in, settled_in, owner_in, wanting_in, just_sent_in, owned_in, live_in, keeps_in, claims_by, tag_in, is_unwanted, Becomes}
use Rattle.attempt_table.specs.Claims.{Claim, claims_with, claims_without}
use Rattle.attempt_table.specs.AttemptsAgree.{times, Reads, IsSound, Says, IsApart, Settles}
use Rattle.attempt_table.proofs.Bools.{same, differ, and_first, and_second, not_true, or_first, or_second, wanted_by, unwanted_by, some_map, strays as strayed}
use Rattle.attempt_table.proofs.Numbers.{times_more}
use Rattle.attempt_table.proofs.Places.{get_set_within, get_set_other, row_other}
use Rattle.attempt_table.proofs.Shown.{claimed_open}
use Rattle.attempt_table.proofs.Changes.{IsUnsent, says_still, says_moved, tags_moved, tags_unmoved, tags_differ, claims_unmoved, claims_put, claims_cut, keeps_moved, reads_moved}

module _ (s : HostSpec) (P : List Entry) (table : List Row) (shown : List TagState) (kept : List (Option Answer)) (waiting : List Claim) (lates : List ℕ) (run : Says s P table shown kept waiting lates) where
  still : (e : Entry) → ((n : ℕ) → Reads (e ∷ P) n (row_of n table)) → IsUnsent P (e ∷ P) → ((n : ℕ) → answer n (e ∷ P) ≡ answer n P) → ((n : ℕ) → late n (e ∷ P) ≡ late n P)
      → Says s (e ∷ P) table shown kept waiting lates
  still e rows unsent answers lates_are =
      says_still s P table shown kept waiting lates run (e ∷ P) table rows lates unsent refl (λ n keeps. answers n) (λ n. lates_are n ∙ run.lates_are n)

  -- entries that say nothing of attempts
  pub says_apart : (e : Entry) → IsApart e → Says s (e ∷ P) table shown kept waiting lates
  says_apart (entry.Took c) apart = still (entry.Took c) run.rows (record { sends_are = refl; numbers = refl; last = λ u. refl; tagged = λ n. refl }) (λ n. refl) (λ n. refl)
  says_apart (entry.Longer m) apart = still (entry.Longer m) run.rows (record { sends_are = refl; numbers = refl; last = λ u. refl; tagged = λ n. refl }) (λ n. refl) (λ n. refl)
  says_apart (entry.DoneSaid m) apart = still (entry.DoneSaid m) run.rows (record { sends_are = refl; numbers = refl; last = λ u. refl; tagged = λ n. refl }) (λ n. refl) (λ n. refl)
  says_apart (entry.Aborted c m ok) apart = still (entry.Aborted c m ok) run.rows (record { sends_are = refl; numbers = refl; last = λ u. refl; tagged = λ n. refl }) (λ n. refl) (λ n. refl)
  says_apart (entry.Cleared c level) apart = still (entry.Cleared c level) run.rows (record { sends_are = refl; numbers = refl; last = λ u. refl; tagged = λ n. refl }) (λ n. refl) (λ n. refl)
  says_apart (entry.Again c counted) apart = still (entry.Again c counted) run.rows (record { sends_are = refl; numbers = refl; last = λ u. refl; tagged = λ n. refl }) (λ n. refl) (λ n. refl)
  says_apart (entry.Told c a) apart = still (entry.Told c a) run.rows (record { sends_are = refl; numbers = refl; last = λ u. refl; tagged = λ n. refl }) (λ n. refl) (λ n. refl)
  says_apart entry.EhBegin apart = still entry.EhBegin run.rows (record { sends_are = refl; numbers = refl; last = λ u. refl; tagged = λ n. refl }) (λ n. refl) (λ n. refl)
  says_apart entry.EhEnd apart = still entry.EhEnd run.rows (record { sends_are = refl; numbers = refl; last = λ u. refl; tagged = λ n. refl }) (λ n. refl) (λ n. refl)
  says_apart (entry.Act level scope ok) apart = still (entry.Act level scope ok) run.rows (record { sends_are = refl; numbers = refl; last = λ u. refl; tagged = λ n. refl }) (λ n. refl) (λ n. refl)
  says_apart (entry.Probe d op say) apart = still (entry.Probe d op say) run.rows (record { sends_are = refl; numbers = refl; last = λ u. refl; tagged = λ n. refl }) (λ n. refl) (λ n. refl)
  says_apart (entry.Offline d) apart = still (entry.Offline d) run.rows (record { sends_are = refl; numbers = refl; last = λ u. refl; tagged = λ n. refl }) (λ n. refl) (λ n. refl)
  says_apart (entry.State d x) apart = still (entry.State d x) run.rows (record { sends_are = refl; numbers = refl; last = λ u. refl; tagged = λ n. refl }) (λ n. refl) (λ n. refl)
  says_apart entry.Tick apart = still entry.Tick run.rows (record { sends_are = refl; numbers = refl; last = λ u. refl; tagged = λ n. refl }) (λ n. refl) (λ n. refl)
  says_apart e apart = absurd apart

  -- a settled attempt is settled again
  settled_before : (n : ℕ) → settled_in (row_of n table) ≡ true → is_settled n P ≡ true
  settled_before n settled = (run.rows n).5 ∙ settled

  settled_still : (n m k : ℕ) → m ≡ n → settled_in (row_of n table) ≡ true → cond (m == k) true (is_settled k P) ≡ is_settled k P
  settled_still n m k e settled = elim (cases_Bool (m == k)) [
    | inl is ↦ rw is (sym (subst (λ (j : ℕ). is_settled j P ≡ true) (sym e ∙ eqb-true m k is) (settled_before n settled)))
    | inr isnt ↦ rw isnt refl
  ]

  pub says_again : (n : ℕ) (e : Entry) → Settles n e → settled_in (row_of n table) ≡ true → Says s (e ∷ P) table shown kept waiting lates
  says_again n (entry.Judged c m d) of settled =
      still (entry.Judged c m d) (λ k. let at = run.rows k in (at.0, at.1, at.2, at.3, at.4, settled_still n m.0 k of settled ∙ at.5, at.6, at.7, at.8))
      (record { sends_are = refl; numbers = refl; last = λ u. refl; tagged = λ k. refl }) (λ k. refl) (λ k. refl)
  says_again n (entry.AbortSet c m) of settled =
      still (entry.AbortSet c m) (λ k. let at = run.rows k in (at.0, at.1, at.2, at.3, at.4, settled_still n m.0 k of settled ∙ at.5, at.6, at.7, at.8))
      (record { sends_are = refl; numbers = refl; last = λ u. refl; tagged = λ k. refl }) (λ k. refl) (λ k. refl)
  says_again n (entry.Failed c m x) of settled =
      still (entry.Failed c m x) (λ k. let at = run.rows k in (at.0, at.1, at.2, at.3, at.4, settled_still n m.0 k of settled ∙ at.5, at.6, at.7, at.8))
      (record { sends_are = refl; numbers = refl; last = λ u. refl; tagged = λ k. refl }) (λ k. refl) (λ k. refl)
  says_again n e of settled = absurd of

  -- sense is fetched for an attempt that isn't under way
  pub says_sensed : (c : CmdId) (n : Attempt) (x : _) → live_in (row_of n.0 table) ≡ false → Says s (entry.Sensed c n x ∷ P) table shown kept waiting lates
  says_sensed c n x dead =
      says_still s P table shown kept waiting lates run (entry.Sensed c n x ∷ P) table
      (λ k. let at = run.rows k in (at.0, at.1, at.2, sensed_some k ∙ at.3, at.4, at.5, at.6, at.7, at.8))
      lates (record { sends_are = refl; numbers = refl; last = λ u. refl; tagged = λ k. refl }) refl
      (λ k keeps. let ne : n.0 ≢ k = λ e. other k keeps e in rw (differ ne) refl) run.lates_are
    where
      sensed_some : (k : ℕ) → is_some (answer k (entry.Sensed c n x ∷ P)) ≡ is_some (answer k P)
      sensed_some k = elim (cases_Bool (n.0 == k)) [
        | inl is ↦ rw is (some_map (with_sense x) (answer k P))
        | inr isnt ↦ rw isnt refl
      ]

      other : (k : ℕ) → keeps_in (row_of k table) ≡ true → n.0 ≡ k → ⊥
      other k keeps e =
          let living : live_in (row_of k table) ≡ true = and_first (live_in (row_of k table)) (answered_in (row_of k table)) keeps in
          let here : live_in (row_of k table) ≡ false = subst (λ (j : ℕ). live_in (row_of j table) ≡ false) e dead in
          cc

  -- what the journal says of an attempt whose row is known
  at_row : (n : ℕ) (f : Row → Row) (table' : List Row) (h : Becomes n f table table') → Reads P n (Some h.row)
  at_row n f table' h = subst (λ (r : Option Row). Reads P n r) h.was (run.rows n)

  sound_row : (n : ℕ) (f : Row → Row) (table' : List Row) (h : Becomes n f table table') → IsSound (Some h.row)
  sound_row n f table' h = subst (λ (x : Option Row). IsSound x) h.was (run.sound n)

  -- which attempt's answer would be good
  wanted_row : (k : ℕ) → is_wanted k P ≡ wanting_in (row_of k table)
  wanted_row k =
      let at = run.rows k in
      wanted_by (is_open k P) (is_answered k P) (open_in (row_of k table)) (answered_in (row_of k table)) at.1 at.2

  pub says_bounced : (c : CmdId) (n : Attempt) (why : BusyOf) (table' : List Row) → Becomes n.0 turned_away table table' → just_sent_in (row_of n.0 table) ≡ true
      → Says s (entry.Bounced c n why ∷ P) table' (slice_set shown (tag_in (row_of n.0 table)).0 TagFree) kept waiting lates
  says_bounced c n why table' h fresh =
      let P' = entry.Bounced c n why ∷ P in
      let at = at_row n.0 turned_away table' h in
      let sent : just_sent_in (Some h.row) ≡ true = sym (ap just_sent_in h.was) ∙ fresh in
      let parts = sent_parts h.row sent in
      let opened : open_in (row_of n.0 table) ≡ true = ap open_in h.was ∙ parts.0 in
      let live = or_first (open_in (row_of n.0 table)) (owned_in (row_of n.0 table)) opened in
      let here : Reads P' n.0 (Some (turned_away h.row)) =
      (at.0, rw (same n.0) refl, rw (same n.0) refl, at.3, at.4, at.5, at.6, at.7, at.8)
      in
      let rows' = reads_moved s P table shown kept waiting lates run P' table' n.0 turned_away h here (λ k ne. rw (differ (λ (e : n.0 ≡ k). ne (sym e))) (run.rows k)) in
      says_moved s P table shown kept waiting lates run P' table' rows' n.0 turned_away h live refl (slice_set shown (tag_in (row_of n.0 table)).0 TagFree) kept waiting lates
      (record { sends_are = refl; numbers = refl; last = λ u. refl; tagged = λ k. refl })
      (tags_moved s P table shown kept waiting lates run P' table' rows' n.0 turned_away h live refl TagFree (λ u. refl) (rw parts.3 (none_shown n.0 h.row.settled)))
      refl
      (keeps_moved s P table shown kept waiting lates run P' table' rows' n.0 turned_away h live refl (λ k. refl) (λ keeps. absurd (no_answer h.row parts.1 keeps)))
      (claims_unmoved s P table shown kept waiting lates run P' table' rows' n.0 turned_away h live refl refl (rw (parts.1, parts.2) (no_claims h.row.out _ _)))
      ((sound_row n.0 turned_away table' h).0, λ opened. cc)
      run.lates_are
    where
      sent_parts : (r : Row) → just_sent_in (Some r) ≡ true → (r.out ≡ true) × (r.answered ≡ false) × (r.due ≡ false) × (r.owner ≡ None)
      sent_parts r h = by_fields r.out r.answered r.due r.owner h
        where
          by_fields : (o t d : Bool) (w : Option By) → o && not t && not d && not (is_some w) ≡ true → (o ≡ true) × (t ≡ false) × (d ≡ false) × (w ≡ None)
          by_fields true false false None h = (refl, refl, refl, refl)
          by_fields true false false (Some by) h = cc
          by_fields true false true w h = cc
          by_fields true true d w h = cc
          by_fields false t d w h = cc

      no_answer : (r : Row) → r.answered ≡ false → keeps_in (Some (turned_away r)) ≡ true → ⊥
      no_answer r none keeps =
          let some : r.answered ≡ true = and_second (live_in (Some (turned_away r))) r.answered keeps in cc

      none_shown : (m : ℕ) (e : Bool) → state_by m false e None ≡ TagFree
      none_shown m true = refl
      none_shown m false = refl

      no_claims : (o : Bool) (x y : Claim) → ◌≡◌ {A = List Claim} [] (cond (o && false) (x ∷ []) [] ++ cond (o && false) (y ∷ []) [])
      no_claims true x y = refl
      no_claims false x y = refl

  pub says_answered : (n : Attempt) (a : Answer) (table' : List Row) → Becomes n.0 with_answer table table' → wanting_in (row_of n.0 table) ≡ true
      → Says s (entry.Ready n a ∷ P) table' shown (slice_set kept (tag_in (row_of n.0 table)).0 (Some a)) (claims_with (tag_in (row_of n.0 table), n, ByAnswer) waiting) lates
  says_answered n a table' h wants =
      let P' = entry.Ready n a ∷ P in
      let at = at_row n.0 with_answer table' h in
      let one : Claim = (tag_in (row_of n.0 table), n, ByAnswer) in
      let wanting : wanting_in (Some h.row) ≡ true = sym (ap wanting_in h.was) ∙ wants in
      let opened : h.row.out ≡ true = and_first h.row.out (not h.row.answered) wanting in
      let fresh : h.row.answered ≡ false = not_true h.row.answered (and_second h.row.out (not h.row.answered) wanting) in
      let live = or_first (open_in (row_of n.0 table)) (owned_in (row_of n.0 table)) (ap open_in h.was ∙ opened) in
      let wanted : is_wanted n.0 P ≡ true = wanted_row n.0 ∙ wants in
      let open_now : is_open n.0 P ≡ true = at.1 ∙ opened in
      let here : Reads P' n.0 (Some (with_answer h.row)) =
      (at.0, at.1, rw (same n.0, open_now, opened) refl, rw (same n.0, wanted) refl, at.4, at.5, at.6, at.7, at.8)
      in
      let rows' = reads_moved s P table shown kept waiting lates run P' table' n.0 with_answer h here (λ k ne. rw (differ (λ (e : n.0 ≡ k). ne (sym e))) (run.rows k)) in
      let no_later : (k : ℕ) → (n.0 == k) && not (is_wanted k P) ≡ false = λ k. unwanted_by (n.0 == k) (not (is_wanted k P))
      (λ e. ap not (subst (λ (j : ℕ). is_wanted j P ≡ true) (eqb-true n.0 k e) wanted))
      in
      let u = (tag_in (row_of n.0 table)).0 in
      let inside : u < length kept = subst (λ (q : ℕ). u < q) (sym run.places) (run.below n.0 live) in
      let keeps' : (k : ℕ) → keeps_in (row_of k table') ≡ true → slice_get (slice_set kept u (Some a)) (tag_in (row_of k table)).0 ≡ Some (answer k P') =
      λ k keeps. elim (cases_eq k n.0) [
        | inl e ↦
            subst (λ (j : ℕ). slice_get (slice_set kept u (Some a)) (tag_in (row_of j table)).0 ≡ Some (answer j P')) (sym e)
            (get_set_within kept u (Some a) inside ∙ rw (same n.0, wanted) refl)
        | inr ne ↦
            let before : keeps_in (row_of k table) ≡ true = sym (ap keeps_in (others_row n.0 table' h k ne)) ∙ keeps in
            let living : live_in (row_of k table) ≡ true = and_first (live_in (row_of k table)) (answered_in (row_of k table)) before in
            let apart : (tag_in (row_of k table)).0 ≢ u = λ e. ne (tags_differ s P table shown kept waiting lates run k n.0 living live e) in
            get_set_other kept u (tag_in (row_of k table)).0 (Some a) apart
            ∙ (run.keeps k before ∙ rw (differ (λ (e : n.0 ≡ k). ne (sym e))) refl)
      ] in
      says_moved s P table shown kept waiting lates run P' table' rows' n.0 with_answer h live refl shown (slice_set kept u (Some a)) (claims_with one waiting) lates
      (record { sends_are = refl; numbers = refl; last = λ u. refl; tagged = λ k. refl })
      (tags_unmoved s P table shown kept waiting lates run P' table' rows' n.0 with_answer h live refl (λ u. refl) refl)
      (length-set kept u (Some a))
      keeps'
      (claims_put s P table shown kept waiting lates run P' table' rows' n.0 with_answer h live refl one refl refl
      (rw (opened, fresh, ap tag_in h.was) (answer_first h.row.tag n h.row.due)))
      (λ owned. refl, (sound_row n.0 with_answer table' h).1)
      (λ k. rw (no_later k) (run.lates_are k))
    where
      others_row : (n : ℕ) (table' : List Row) → Becomes n with_answer table table' → (k : ℕ) → k ≢ n → row_of k table' ≡ row_of k table
      others_row n table' h k ne = row_other n with_answer table table' h k ne

      answer_first : (t : Tag) (n : Attempt) (d : Bool)
          → ◌≡◌ {A = List Claim} ((t, n, ByAnswer) ∷ [] ++ cond d ((t, n, ByExpiry) ∷ []) []) (claims_with (t, n, ByAnswer) (cond d ((t, n, ByExpiry) ∷ []) []))
      answer_first t n true = rw (same n.0) (by_less (nat_lt n.0 n.0))
        where
          by_less : (b : Bool) → ◌≡◌ {A = List Claim} ((t, n, ByAnswer) ∷ (t, n, ByExpiry) ∷ []) (cond (b || true) ((t, n, ByAnswer) ∷ (t, n, ByExpiry) ∷ []) ((t, n, ByExpiry) ∷ (t, n, ByAnswer) ∷ []))
          by_less true = refl
          by_less false = refl
      answer_first t n false = refl

  pub says_stray : (n : Attempt) (a : Answer) → wanting_in (row_of n.0 table) ≡ false → Says s (entry.Ready n a ∷ P) table shown kept waiting (lates ++ n.0 ∷ [])
  says_stray n a un =
      let unwanted : (k : ℕ) → (n.0 == k) ≡ true → is_wanted k P ≡ false = λ k e. subst (λ (j : ℕ). is_wanted j P ≡ false) (eqb-true n.0 k e) (wanted_row n.0 ∙ un) in
      says_still s P table shown kept waiting lates run (entry.Ready n a ∷ P) table
      (λ k. let at = run.rows k in
      (at.0, at.1, strayed (n.0 == k) (is_open k P) (is_answered k P) _ (unwanted k) at.2, rw (unwanted_by (n.0 == k) (is_wanted k P) (unwanted k)) at.3, at.4, at.5, at.6, at.7, at.8))
      (lates ++ n.0 ∷ []) (record { sends_are = refl; numbers = refl; last = λ u. refl; tagged = λ k. refl }) refl
      (λ k keeps. rw (unwanted_by (n.0 == k) (is_wanted k P) (unwanted k)) refl)
      (λ k. one_more k (unwanted k) ∙ sym (times_more k n.0 lates))
    where
      one_more : (k : ℕ) → ((n.0 == k) ≡ true → is_wanted k P ≡ false) → late k (entry.Ready n a ∷ P) ≡ cond (n.0 == k) (times k lates + 1) (times k lates)
      one_more k unwanted = elim (cases_Bool (n.0 == k)) [
        | inl is ↦ rw (is, unwanted is) (ap (λ j. j + 1) (run.lates_are k))
        | inr isnt ↦ rw isnt (run.lates_are k)
      ]

  pub says_due : (n : Attempt) (table' : List Row) → Becomes n.0 expired table table' → open_in (row_of n.0 table) ≡ true → due_in (row_of n.0 table) ≡ false
      → Says s (entry.Due n ∷ P) table' shown kept (claims_with (tag_in (row_of n.0 table), n, ByExpiry) waiting) lates
  says_due n table' h opens intime =
      let P' = entry.Due n ∷ P in
      let at = at_row n.0 expired table' h in
      let one : Claim = (tag_in (row_of n.0 table), n, ByExpiry) in
      let opened : h.row.out ≡ true = sym (ap open_in h.was) ∙ opens in
      let undue : h.row.due ≡ false = sym (ap due_in h.was) ∙ intime in
      let live = or_first (open_in (row_of n.0 table)) (owned_in (row_of n.0 table)) opens in
      let here : Reads P' n.0 (Some (expired h.row)) = (at.0, at.1, at.2, at.3, at.4, at.5, at.6, at.7, rw (same n.0) refl) in
      let rows' = reads_moved s P table shown kept waiting lates run P' table' n.0 expired h here (λ k ne. rw (differ (λ (e : n.0 ≡ k). ne (sym e))) (run.rows k)) in
      says_moved s P table shown kept waiting lates run P' table' rows' n.0 expired h live refl shown kept (claims_with one waiting) lates
      (record { sends_are = refl; numbers = refl; last = λ u. refl; tagged = λ k. refl })
      (tags_unmoved s P table shown kept waiting lates run P' table' rows' n.0 expired h live refl (λ u. refl) refl)
      refl
      (keeps_moved s P table shown kept waiting lates run P' table' rows' n.0 expired h live refl (λ k. refl) (λ keeps. keeps))
      (claims_put s P table shown kept waiting lates run P' table' rows' n.0 expired h live refl one refl refl
      (rw (opened, undue, ap tag_in h.was) (expiry_last h.row.tag n h.row.answered)))
      (sound_row n.0 expired table' h)
      run.lates_are
    where
      expiry_last : (t : Tag) (n : Attempt) (b : Bool)
          → ◌≡◌ {A = List Claim} (cond b ((t, n, ByAnswer) ∷ []) [] ++ (t, n, ByExpiry) ∷ []) (claims_with (t, n, ByExpiry) (cond b ((t, n, ByAnswer) ∷ []) [] ++ []))
      expiry_last t n true = rw (same n.0, le-ltb n.0 n.0 (omega arith)) refl
      expiry_last t n false = refl

  -- which answers are to be ignored once an attempt has its owner
  abbrev pub later : Bool → ℕ → List ℕ
  later b n = cond b (lates ++ n ∷ []) lates

  pub says_owned : (n : Attempt) (by : By) (table' : List Row) (h : Becomes n.0 (given_to by) table table') → claims_by by (row_of n.0 table) ≡ true
      → Says s (entry.Owned n by ∷ P) table' (slice_set shown (tag_in (row_of n.0 table)).0 (TagOwned n by)) kept (claims_without n.0 waiting) (later (is_unwanted by h.row) n.0)
  says_owned n by table' h waits =
      let P' = entry.Owned n by ∷ P in
      let f = given_to by in
      let at = at_row n.0 f table' h in
      let opens : open_in (row_of n.0 table) ≡ true = claimed_open by (row_of n.0 table) waits in
      let live = or_first (open_in (row_of n.0 table)) (owned_in (row_of n.0 table)) opens in
      let here : Reads P' n.0 (Some (f h.row)) =
      (at.0, rw (same n.0) refl, rw (same n.0) refl, at.3, rw (same n.0) refl, rw (same n.0) refl, at.6, at.7, at.8)
      in
      let rows' = reads_moved s P table shown kept waiting lates run P' table' n.0 f h here (λ k ne. rw (differ (λ (e : n.0 ≡ k). ne (sym e))) (run.rows k)) in
      says_moved s P table shown kept waiting lates run P' table' rows' n.0 f h live refl (slice_set shown (tag_in (row_of n.0 table)).0 (TagOwned n by)) kept (claims_without n.0 waiting)
      (later (is_unwanted by h.row) n.0)
      (record { sends_are = refl; numbers = refl; last = λ u. refl; tagged = λ k. refl })
      (tags_moved s P table shown kept waiting lates run P' table' rows' n.0 f h live refl (TagOwned n by) (λ u. refl) refl)
      refl
      (keeps_moved s P table shown kept waiting lates run P' table' rows' n.0 f h live refl (λ k. refl)
      (λ keeps. rw (sym (ap open_in h.was) ∙ opens) keeps))
      (claims_cut s P table shown kept waiting lates run P' table' rows' n.0 f h live refl refl refl)
      (fair_now by h.row (sym (ap (claims_by by) h.was) ∙ waits), λ opened. cc)
      (lates_owned n by h.row at.3)
    where
      fair_now : (by : By) (r : Row) → claims_by by (Some r) ≡ true → owner_in (Some (given_to by r)) ≡ Some ByAnswer → r.answered ≡ true
      fair_now ByAnswer r claims owned = and_second r.out r.answered claims
      fair_now ByExpiry r claims owned = cc

      lates_owned : (n : Attempt) (by : By) (r : Row) → is_some (answer n.0 P) ≡ r.answered → (k : ℕ) → late k (entry.Owned n by ∷ P) ≡ times k (later (is_unwanted by r) n.0)
      lates_owned n ByAnswer r answers k = run.lates_are k
      lates_owned n ByExpiry r answers k = elim (cases_Bool r.answered) [
        | inl is ↦
            rw is (elim (cases_Bool (n.0 == k)) [
              | inl here ↦
                  let some : is_some (answer k P) ≡ true = subst (λ (j : ℕ). is_some (answer j P) ≡ true) (eqb-true n.0 k here) (answers ∙ is) in
                  rw (here, some, run.lates_are k, times_more k n.0 lates) (rw here refl)
              | inr other ↦ rw (other, run.lates_are k, times_more k n.0 lates) (rw other refl)
            ])
        | inr isnt ↦
            rw isnt (elim (cases_Bool (n.0 == k)) [
              | inl here ↦
                  let none : is_some (answer k P) ≡ false = subst (λ (j : ℕ). is_some (answer j P) ≡ false) (eqb-true n.0 k here) (answers ∙ isnt) in
                  rw (here, none) (run.lates_are k)
              | inr other ↦ rw other (run.lates_are k)
            ])
      ]

  -- an owned attempt comes to its end
  closed : (r : Row) → owned_in (Some r) ≡ true → r.out ≡ false
  closed r owned = by_fields r.out r.settled r.owner owned
    where
      by_fields : (o e : Bool) (w : Option By) → not o && not e && is_some w ≡ true → o ≡ false
      by_fields true e w h = cc
      by_fields false e w h = refl

  ended : (e : Entry) (n : ℕ) (table' : List Row) → Becomes n at_end table table' → owned_in (row_of n table) ≡ true
      → ((k : ℕ) → Reads (e ∷ P) k (row_of k table')) → IsUnsent P (e ∷ P) → ((k : ℕ) → answer k (e ∷ P) ≡ answer k P) → ((k : ℕ) → late k (e ∷ P) ≡ late k P)
      → Says s (e ∷ P) table' (slice_set shown (tag_in (row_of n table)).0 TagFree) kept waiting lates
  ended e n table' h owned rows' unsent answers lates_are =
      let P' = e ∷ P in
      let shut : h.row.out ≡ false = closed h.row (sym (ap owned_in h.was) ∙ owned) in
      let live = or_second (open_in (row_of n table)) (owned_in (row_of n table)) owned in
      says_moved s P table shown kept waiting lates run P' table' rows' n at_end h live refl (slice_set shown (tag_in (row_of n table)).0 TagFree) kept waiting lates
      unsent
      (tags_moved s P table shown kept waiting lates run P' table' rows' n at_end h live refl TagFree unsent.last (rw shut refl))
      refl
      (keeps_moved s P table shown kept waiting lates run P' table' rows' n at_end h live refl answers
      (λ keeps. let dead : keeps_in (Some (at_end h.row)) ≡ false = rw shut refl in cc))
      (claims_unmoved s P table shown kept waiting lates run P' table' rows' n at_end h live refl unsent.numbers refl)
      (sound_row n at_end table' h)
      (λ k. lates_are k ∙ run.lates_are k)

  pub says_settled : (n : ℕ) (e : Entry) (table' : List Row) → Settles n e → Becomes n at_end table table' → owned_in (row_of n table) ≡ true
      → Says s (e ∷ P) table' (slice_set shown (tag_in (row_of n table)).0 TagFree) kept waiting lates
  says_settled n (entry.Judged c m d) table' of h owned =
      let P' = entry.Judged c m d ∷ P in
      let at = at_row n at_end table' h in
      let here : Reads P' n (Some (at_end h.row)) = (at.0, at.1, at.2, at.3, at.4, rw (eq-eqb m.0 n of) refl, at.6, at.7, at.8) in
      ended (entry.Judged c m d) n table' h owned
      (reads_moved s P table shown kept waiting lates run P' table' n at_end h here (λ k ne. rw (differ (λ (e : m.0 ≡ k). ne (sym e ∙ of))) (run.rows k)))
      (record { sends_are = refl; numbers = refl; last = λ u. refl; tagged = λ k. refl }) (λ k. refl) (λ k. refl)
  says_settled n (entry.AbortSet c m) table' of h owned =
      let P' = entry.AbortSet c m ∷ P in
      let at = at_row n at_end table' h in
      let here : Reads P' n (Some (at_end h.row)) = (at.0, at.1, at.2, at.3, at.4, rw (eq-eqb m.0 n of) refl, at.6, at.7, at.8) in
      ended (entry.AbortSet c m) n table' h owned
      (reads_moved s P table shown kept waiting lates run P' table' n at_end h here (λ k ne. rw (differ (λ (e : m.0 ≡ k). ne (sym e ∙ of))) (run.rows k)))
      (record { sends_are = refl; numbers = refl; last = λ u. refl; tagged = λ k. refl }) (λ k. refl) (λ k. refl)
  says_settled n (entry.Failed c m x) table' of h owned =
      let P' = entry.Failed c m x ∷ P in
      let at = at_row n at_end table' h in
      let here : Reads P' n (Some (at_end h.row)) = (at.0, at.1, at.2, at.3, at.4, rw (eq-eqb m.0 n of) refl, at.6, at.7, at.8) in
      ended (entry.Failed c m x) n table' h owned
      (reads_moved s P table shown kept waiting lates run P' table' n at_end h here (λ k ne. rw (differ (λ (e : m.0 ≡ k). ne (sym e ∙ of))) (run.rows k)))
      (record { sends_are = refl; numbers = refl; last = λ u. refl; tagged = λ k. refl }) (λ k. refl) (λ k. refl)
  says_settled n e table' of h owned = absurd of

  -- one answer is ignored
  pub says_dropped : (n : Attempt) (lates' : List ℕ) → ((m : ℕ) → times m lates' ≡ cond (n.0 == m) (pred (times m lates)) (times m lates))
      → Says s (entry.Late n ∷ P) table shown kept waiting lates'
  says_dropped n lates' less =
      says_still s P table shown kept waiting lates run (entry.Late n ∷ P) table run.rows lates'
      (record { sends_are = refl; numbers = refl; last = λ u. refl; tagged = λ k. refl }) refl (λ k keeps. refl)
      (λ k. rw (run.lates_are k) (sym (less k)))
