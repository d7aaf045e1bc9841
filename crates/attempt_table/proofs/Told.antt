-- What holds of a table that says what the journal says.
use Rattle.std.proofs.Common.{◌≡◌, ◌≢◌, ℕ, true, List, ◌∷◌, Option, None, Some, inl, inr, refl, sym, ◌∙◌, subst}
use Rattle.std.specs.Prelude.{slice_get, unwrap_or}
use Rattle.std.proofs.lemmas.Bool.{cases_Bool}
use Rattle.mid_base.specs.declared.answers.Answer.{Answer}
use Rattle.mid_base.specs.declared.answers.TagState.{TagState}
use Rattle.mid_base.specs.declared.answers.TagState.TheVariants.{Free, Armed}
use Rattle.mid_base.specs.declared.entries.Entry.{Entry}
use Rattle.mid_base.specs.declared.host_spec.HostSpec.{HostSpec}
use Rattle.mid_base.specs.declared.names.Attempt.{Attempt}
use Rattle.trace_model.specs.Attempts.{answer}
use Rattle.attempt_table.specs.declared.attempts.Attempts.{Attempts}
use Rattle.attempt_table.specs.Rows.{row_of, open_in, settled_in, live_in, keeps_in, answer_in, tag_in, shown_in}
use Rattle.attempt_table.specs.AttemptsAgree.{AttemptsAgree, IsApart, Settles}
use Rattle.attempt_table.proofs.Shown.{live_is_shown, held_has_attempt, armed_open}
use Rattle.attempt_table.proofs.Moves.{says_apart, says_again}

pub tells_apart : (s : HostSpec) (P : List Entry) (t : Attempts) (e : Entry) → IsApart e → AttemptsAgree s P t → AttemptsAgree s (e ∷ P) t
tells_apart s P t e apart tells = (says_apart s P t.rows.items t.tags.items t.kept.items t.claims.items t.lates.items tells.0 e apart, tells.1, tells.2, tells.3)

pub tells_again : (s : HostSpec) (P : List Entry) (t : Attempts) (n : ℕ) (e : Entry) → Settles n e → settled_in (row_of n t.rows.items) ≡ true
    → AttemptsAgree s P t → AttemptsAgree s (e ∷ P) t
tells_again s P t n e of settled tells = (says_again s P t.rows.items t.tags.items t.kept.items t.claims.items t.lates.items tells.0 n e of settled, tells.1, tells.2, tells.3)

pub armed_is_live : (s : HostSpec) (P : List Entry) (t : Attempts) → AttemptsAgree s P t → (u : ℕ) (x : TagState) → slice_get t.tags.items u ≡ Some x → x ≢ Free
    → (n : ℕ) × (live_in (row_of n t.rows.items) ≡ true) × ((tag_in (row_of n t.rows.items)).0 ≡ u)
armed_is_live s P t tells = held_has_attempt s P t.rows.items t.tags.items t.kept.items t.claims.items t.lates.items tells.0

pub live_tag_is_shown : (s : HostSpec) (P : List Entry) (t : Attempts) → AttemptsAgree s P t → (n : ℕ) → live_in (row_of n t.rows.items) ≡ true
    → slice_get t.tags.items (tag_in (row_of n t.rows.items)).0 ≡ Some (shown_in n (row_of n t.rows.items))
live_tag_is_shown s P t tells = live_is_shown s P t.rows.items t.tags.items t.kept.items t.claims.items t.lates.items tells.0

-- an armed tag is that of the attempt that it shows, which is open
pub armed_attempt : (s : HostSpec) (P : List Entry) (t : Attempts) → AttemptsAgree s P t → (u : ℕ) (m : Attempt) → slice_get t.tags.items u ≡ Some (Armed m)
    → (open_in (row_of m.0 t.rows.items) ≡ true) × ((tag_in (row_of m.0 t.rows.items)).0 ≡ u)
armed_attempt s P t tells u m there =
    let held = armed_is_live s P t tells u (Armed m) there (λ e. cc) in
    let n = held.0 in
    let shown = live_tag_is_shown s P t tells n held.1 in
    let here : slice_get t.tags.items u ≡ Some (shown_in n (row_of n t.rows.items)) = subst (λ (v : ℕ). slice_get t.tags.items v ≡ Some (shown_in n (row_of n t.rows.items))) held.2 shown in
    let both : ◌≡◌ {A = Option TagState} (Some (shown_in n (row_of n t.rows.items))) (Some (Armed m)) = sym here ∙ there in
    let armed : shown_in n (row_of n t.rows.items) ≡ Armed m = cc in
    let open_now = armed_open n (row_of n t.rows.items) m armed in
    subst (λ (k : ℕ). (open_in (row_of k t.rows.items) ≡ true) × ((tag_in (row_of k t.rows.items)).0 ≡ u)) open_now.1 (open_now.0, held.2)

-- the answer of an attempt under way
pub answer_known : (s : HostSpec) (P : List Entry) (t : Attempts) → AttemptsAgree s P t → (n : ℕ) (a : Answer) → answer_in t.kept.items (row_of n t.rows.items) ≡ Some a → answer n P ≡ Some a
answer_known s P t tells n a known = elim (cases_Bool (keeps_in (row_of n t.rows.items))) [
  | inl is ↦
      let kept : unwrap_or (slice_get t.kept.items (tag_in (row_of n t.rows.items)).0) None ≡ answer n P = rw (tells.0.keeps n is) refl in
      let same : unwrap_or (slice_get t.kept.items (tag_in (row_of n t.rows.items)).0) None ≡ Some a = rw is at known in
      sym kept ∙ same
  | inr isnt ↦ let none : ◌≡◌ {A = Option Answer} None (Some a) = rw isnt at known in cc
]
