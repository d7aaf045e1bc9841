-- The deadlines of a host, and the tags of the attempts that wait for theirs.
use Rattle.std.proofs.Common.{◌≡◌, ◌≢◌, ◌∙◌, sym, ap, subst, refl, ℕ, zero, suc, ◌+◌, ◌<◌, ◌≤◌, ◌==◌, Bool, true, false, cond, List, [], ◌∷◌, length, Option, None, Some, is_some, arith, inl, inr}
use Rattle.std.specs.Prelude.{slice_get, slice_set}
use Rattle.std.proofs.lemmas.Bool.{cases_Bool, cases_eq}
use Rattle.mid_base.specs.declared.names.Attempt.{Attempt}
use Rattle.mid_base.specs.declared.names.CmdId.{CmdId}
use Rattle.mid_base.specs.declared.names.Tag.{Tag}
use Rattle.mid_base.specs.declared.answers.TagState.{TagState}
use Rattle.mid_base.specs.declared.answers.TagState.TheVariants as tag
use Rattle.mid_base.specs.declared.entries.Entry.{Entry}
use Rattle.mid_base.specs.declared.host_spec.HostSpec.{HostSpec}
use Rattle.timer_list.specs.Timers.{Timer, deadline_of, Becomes}
use Rattle.deadline_table.specs.declared.deadlines.Deadlines.{Deadlines}
use Rattle.deadline_table.specs.DeadlinesAgree.{DeadlinesAgree, Stops, IsApart}
use Rattle.deadline_table.proofs.Entries.{says_apart}
use Rattle.trace_model.specs.Tags.{tag_states, tags_from}
use Rattle.attempt_table.specs.declared.attempts.Attempts.{Attempts}
use Rattle.attempt_table.specs.Rows.{row_of, open_in, tag_in}
use Rattle.attempt_table.specs.AttemptsAgree.{AttemptsAgree}
use Rattle.attempt_table.proofs.Bools.{same, differ}
use Rattle.attempt_table.proofs.Places.{row_new, get_set_other}
use Rattle.attempt_table.proofs.Told.{armed_attempt}
use Rattle.host_state.specs.HostAgrees.{is_timed_tag, count_tags, IsTimed, HostAgrees}
use Rattle.host_state.specs.declared.running.Running.{Running}
use Rattle.mid_base.specs.Past.{was_sent}

-- the count, where one tag is replaced
count_set : (p : TagState → Bool) (xs : List TagState) (k : ℕ) (x y : TagState) → slice_get xs k ≡ Some x
    → count_tags p (slice_set xs k y) + cond (p x) 1 0 ≡ count_tags p xs + cond (p y) 1 0
count_set p [] k x y at = cc
count_set p (z ∷ zs) zero x y at = let here : z ≡ x = cc in rw here (by_tests (p x) (p y) (count_tags p zs))
  where
    by_tests : (a b : Bool) (c : ℕ) → cond b (c + 1) c + cond a 1 0 ≡ cond a (c + 1) c + cond b 1 0
    by_tests true true c = refl
    by_tests true false c = omega arith
    by_tests false true c = omega arith
    by_tests false false c = refl
count_set p (z ∷ zs) (suc k) x y at = by_test (p z) _ _ _ _ (count_set p zs k x y at)
  where
    by_test : (b : Bool) (m n a c : ℕ) → m + a ≡ n + c → cond b (m + 1) m + a ≡ cond b (n + 1) n + c
    by_test true m n a c rest = omega (arith, rest)
    by_test false m n a c rest = rest

count_same : (p q : TagState → Bool) (xs : List TagState) → ((k : ℕ) (x : TagState) → slice_get xs k ≡ Some x → p x ≡ q x) → count_tags p xs ≡ count_tags q xs
count_same p q [] h = refl
count_same p q (x ∷ xs) h = rw (h 0 x refl, count_same p q xs (λ k y at. h (suc k) y at)) refl

count_bound : (p : TagState → Bool) (xs : List TagState) → count_tags p xs ≤ length xs
count_bound p [] = omega arith
count_bound p (x ∷ xs) = by_test (p x) _ _ (count_bound p xs)
  where
    by_test : (b : Bool) (m n : ℕ) → m ≤ n → cond b (m + 1) m ≤ suc n
    by_test true m n rest = omega (arith, rest)
    by_test false m n rest = omega (arith, rest)

count_less : (p : TagState → Bool) (xs : List TagState) (k : ℕ) (x : TagState) → slice_get xs k ≡ Some x → p x ≡ false → count_tags p xs < length xs
count_less p [] k x at isnt = cc
count_less p (y ∷ ys) zero x at isnt =
    let here : y ≡ x = cc in
    let none : p y ≡ false = ap p here ∙ isnt in
    let rest = count_bound p ys in rw none (omega (arith, rest))
count_less p (y ∷ ys) (suc k) x at isnt = by_test (p y) _ _ (count_less p ys k x at isnt)
  where
    by_test : (b : Bool) (m n : ℕ) → m < n → cond b (m + 1) m < suc n
    by_test true m n rest = omega (arith, rest)
    by_test false m n rest = omega (arith, rest)

tags_length : (t n : ℕ) (P : List Entry) → length (tags_from t n P) ≡ n
tags_length t zero P = refl
tags_length t (suc n) P = ap suc (tags_length (t + 1) n P)

-- the deadline of another attempt
other_deadline : (n m : ℕ) (x : Option ℕ) (old new : List Timer) → Becomes n x old new → m ≢ n → deadline_of m new ≡ deadline_of m old
other_deadline n m x old new h ne = h m ∙ rw (differ ne) refl

own_deadline : (n : ℕ) (x : Option ℕ) (old new : List Timer) → Becomes n x old new → deadline_of n new ≡ x
own_deadline n x old new h = h n ∙ rw (same n) refl

same_tag : (old new : List Timer) (n : ℕ) (x : Option ℕ) (y : TagState) → Becomes n x old new → ((m : Attempt) → y ≡ tag.Armed m → m.0 ≢ n) → is_timed_tag new y ≡ is_timed_tag old y
same_tag old new n x tag.Free h other = refl
same_tag old new n x (tag.Armed m) h other = ap is_some (other_deadline n m.0 x old new h (other m refl))
same_tag old new n x (tag.Owned m by) h other = refl

-- the next attempt wasn't sent yet
pub never_sent : (s : HostSpec) (P : List Entry) (r : Running) → HostAgrees s P r → (n : Attempt) → n.0 ≡ length r.attempts.rows.items + 1 → was_sent n.0 P ≡ false
never_sent s P r runs n number = (runs.attempts.0.rows n.0).0 ∙ ap is_some (row_new r.attempts.rows.items n.0 number)

module _ (s : HostSpec) (P : List Entry) (d : Deadlines) (tags : List TagState) (timed : IsTimed s P d tags) where
  -- an entry that starts and stops no timer
  pub timed_apart : (e : Entry) → IsApart e → IsTimed s (e ∷ P) d tags
  timed_apart e apart = record { agrees = says_apart s P d.timers.timers timed.agrees e apart; most = timed.most; count = timed.count }

  -- room for one attempt more where a tag is free
  pub room_for : (t : ℕ) → tags ≡ tag_states s P → slice_get tags t ≡ Some tag.Free → length d.timers.timers < d.timers.most
  room_for t shown free =
      let less = count_less (is_timed_tag d.timers.timers) tags t tag.Free free refl in
      let count : length tags ≡ s.can_queue = ap (λ (xs : List TagState). length xs) shown ∙ tags_length 0 s.can_queue P in
      omega (arith, less, count, timed.most, timed.count)

  -- an attempt is sent with a free tag
  pub timed_sent : (attempts : Attempts) → AttemptsAgree s P attempts → attempts.tags.items ≡ tags → (Q : List Entry) (new : Deadlines) (n : Attempt) (t : Tag) (at : ℕ)
      → row_of n.0 attempts.rows.items ≡ None → slice_get tags t.0 ≡ Some tag.Free → Becomes n.0 (Some at) d.timers.timers new.timers.timers
      → length new.timers.timers ≡ length d.timers.timers + 1 → new.timers.most ≡ d.timers.most → DeadlinesAgree s Q new
      → IsTimed s Q new (slice_set tags t.0 (tag.Armed n))
  timed_sent attempts run shown Q new n t at unsent free becomes more most agrees =
      let f = is_timed_tag d.timers.timers in
      let g = is_timed_tag new.timers.timers in
      let set = count_set g tags t.0 tag.Free (tag.Armed n) free in
      let here : g (tag.Armed n) ≡ true = ap is_some (own_deadline n.0 (Some at) d.timers.timers new.timers.timers becomes) in
      let other : (k : ℕ) (x : TagState) → slice_get tags k ≡ Some x → g x ≡ f x = λ k x there.
      same_tag d.timers.timers new.timers.timers n.0 (Some at) x becomes (λ m is e.
      let armed = armed_attempt s P attempts run k m (ap (λ (xs : List TagState). slice_get xs k) shown ∙ (there ∙ ap Some is)) in
      let gone : open_in (row_of m.0 attempts.rows.items) ≡ false = ap (λ (j : ℕ). open_in (row_of j attempts.rows.items)) e ∙ ap open_in unsent in
      cc)
      in
      let before = count_same g f tags other in
      let one : ◌≡◌ {A = ℕ} (cond (g (tag.Armed n)) 1 0) 1 = rw here refl in
      record { agrees = agrees; most = most ∙ timed.most; count = omega (arith, set, one, before, more, timed.count) }

  -- the tag of an open attempt shows it so no longer, and its timer runs no longer
  pub timed_stopped : (attempts : Attempts) → AttemptsAgree s P attempts → attempts.tags.items ≡ tags → (Q : List Entry) (new : Deadlines) (n : Attempt) (y : TagState)
      → slice_get tags (tag_in (row_of n.0 attempts.rows.items)).0 ≡ Some (tag.Armed n) → ((timers : List Timer) → is_timed_tag timers y ≡ false)
      → Stops n.0 d.timers new.timers → DeadlinesAgree s Q new
      → IsTimed s Q new (slice_set tags (tag_in (row_of n.0 attempts.rows.items)).0 y)
  timed_stopped attempts run shown Q new n y there untimed stops agrees =
      let u = (tag_in (row_of n.0 attempts.rows.items)).0 in
      let f = is_timed_tag d.timers.timers in
      let g = is_timed_tag new.timers.timers in
      let set = count_set f tags u (tag.Armed n) y there in
      let none : ◌≡◌ {A = ℕ} (cond (f y) 1 0) 0 = rw (untimed d.timers.timers) refl in
      let other : (k : ℕ) (x : TagState) → slice_get (slice_set tags u y) k ≡ Some x → g x ≡ f x = λ k x got. elim (cases_eq k u) [
        | inl e ↦
            let put : slice_get (slice_set tags u y) k ≡ Some y = ap (slice_get (slice_set tags u y)) e ∙ put_there tags u (tag.Armed n) y there in
            let is : x ≡ y = cc in
            rw is (untimed new.timers.timers ∙ sym (untimed d.timers.timers))
        | inr ne ↦
            let before : slice_get tags k ≡ Some x = sym (get_set_other tags u k y ne) ∙ got in
            same_tag d.timers.timers new.timers.timers n.0 None x stops.deadlines (λ m is e.
            let armed = armed_attempt s P attempts run k m (ap (λ (xs : List TagState). slice_get xs k) shown ∙ (before ∙ ap Some is)) in
            ne (sym armed.1 ∙ ap (λ (j : ℕ). (tag_in (row_of j attempts.rows.items)).0) e))
      ] in
      let after = count_same g f (slice_set tags u y) other in
      record { agrees = agrees; most = stops.most ∙ timed.most; count = omega (arith, set, none, after, stops.count, timed.count) }
    where
      put_there : (xs : List TagState) (k : ℕ) (x y : TagState) → slice_get xs k ≡ Some x → slice_get (slice_set xs k y) k ≡ Some y
      put_there [] k x y at = cc
      put_there (z ∷ zs) zero x y at = refl
      put_there (z ∷ zs) (suc k) x y at = put_there zs k x y at

  -- the timer of an open attempt runs no longer
  pub timed_dropped : (attempts : Attempts) → AttemptsAgree s P attempts → attempts.tags.items ≡ tags → (Q : List Entry) (new : Deadlines) (n : Attempt)
      → slice_get tags (tag_in (row_of n.0 attempts.rows.items)).0 ≡ Some (tag.Armed n) → Stops n.0 d.timers new.timers → DeadlinesAgree s Q new → IsTimed s Q new tags
  timed_dropped attempts run shown Q new n there stops agrees =
      let g = is_timed_tag new.timers.timers in
      let freed = timed_stopped attempts run shown Q new n tag.Free there (λ timers. refl) stops agrees in
      let set = count_set g tags (tag_in (row_of n.0 attempts.rows.items)).0 (tag.Armed n) tag.Free there in
      let none : ◌≡◌ {A = ℕ} (cond (g (tag.Armed n)) 1 0) 0 = rw (own_deadline n.0 None d.timers.timers new.timers.timers stops.deadlines) refl in
      record { agrees = agrees; most = freed.most; count = omega (arith, set, none, freed.count) }

  -- the timer of an attempt runs longer
  pub timed_longer : (Q : List Entry) (new : Deadlines) (n : Attempt) (was at : ℕ) → deadline_of n.0 d.timers.timers ≡ Some was → Becomes n.0 (Some at) d.timers.timers new.timers.timers
      → length new.timers.timers ≡ length d.timers.timers → new.timers.most ≡ d.timers.most → DeadlinesAgree s Q new → IsTimed s Q new tags
  timed_longer Q new n was at before becomes count most agrees =
      let alike = count_same (is_timed_tag new.timers.timers) (is_timed_tag d.timers.timers) tags (λ k x there. still x) in
      record { agrees = agrees; most = most ∙ timed.most; count = count ∙ timed.count ∙ sym alike }
    where
      still : (x : TagState) → is_timed_tag new.timers.timers x ≡ is_timed_tag d.timers.timers x
      still tag.Free = refl
      still (tag.Owned m by) = refl
      still (tag.Armed m) = elim (cases_eq m.0 n.0) [
        | inl e ↦
            ap (λ (j : ℕ). is_some (deadline_of j new.timers.timers)) e ∙ ap is_some (own_deadline n.0 (Some at) d.timers.timers new.timers.timers becomes)
            ∙ sym (ap (λ (j : ℕ). is_some (deadline_of j d.timers.timers)) e ∙ ap is_some before)
        | inr ne ↦ ap is_some (other_deadline n.0 m.0 (Some at) d.timers.timers new.timers.timers becomes ne)
      ]

  -- the tag of a settled attempt is free, and timers run as they did
  pub timed_settled : (Q : List Entry) (u : ℕ) (x : TagState) → slice_get tags u ≡ Some x → is_timed_tag d.timers.timers x ≡ false → DeadlinesAgree s Q d → IsTimed s Q d (slice_set tags u tag.Free)
  timed_settled Q u x there untimed agrees =
      let set = count_set (is_timed_tag d.timers.timers) tags u x tag.Free there in
      let none : ◌≡◌ {A = ℕ} (cond (is_timed_tag d.timers.timers x) 1 0) 0 = rw untimed refl in
      record { agrees = agrees; most = timed.most; count = omega (arith, set, none, timed.count) }
