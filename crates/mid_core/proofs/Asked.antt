-- What is known of the last attempt of a busy command, about which the lower layer is asked, or which it is to abort.
use Rattle.std.proofs.Common.{◌≡◌, ◌∙◌, sym, ap, subst, refl, ℕ, ◌==◌, Bool, true, false, cond, List, [], ◌∷◌, Option, Some, None}
use Rattle.std.specs.Prelude.{slice_get, is_some}
use Rattle.std.proofs.lemmas.Bool.{false≢true}
use Rattle.mid_base.specs.declared.entries.Entry.{Entry}
use Rattle.mid_base.specs.declared.entries.Entry.TheVariants as entry
use Rattle.mid_base.specs.declared.host_spec.CmdSpec.{CmdSpec}
use Rattle.mid_base.specs.declared.host_spec.HostSpec.{HostSpec}
use Rattle.mid_base.specs.declared.names.Attempt.{Attempt}
use Rattle.mid_base.specs.declared.names.CmdId.{CmdId}
use Rattle.mid_base.specs.declared.names.Tag.{Tag}
use Rattle.mid_base.specs.Past.{attempt_of, find_command, sent_for}
use Rattle.deadline_table.specs.declared.deadlines.Deadlines.{Deadlines}
use Rattle.deadline_table.specs.DeadlinesAgree.{timeout_of, IsDueAt}
use Rattle.host_template.specs.Calls.{FitsLast}
use Rattle.trace_model.specs.declared.standing.Standing.{Standing}
use Rattle.trace_model.specs.declared.standing.Standing.TheVariants.{Waits, Busy, Ended}
use Rattle.trace_model.specs.Names.{command}
use Rattle.trace_model.specs.Commands.{standing, is_busy}
use Rattle.attempt_table.specs.declared.rows.Row.{Row}
use Rattle.attempt_table.specs.Rows.{row_of, open_in, live_in, command_in}
use Rattle.host_state.specs.declared.running.Running.{Running}
use Rattle.host_state.specs.HostAgrees.{HostAgrees, IsAsked, IsFirstAbort}
use Rattle.host_state.proofs.Aborts.{first_busy}
use Rattle.host_state.proofs.Asked.{waits_of}
use Rattle.mid_core.proofs.Judged.{id_of}
use Rattle.mid_core.proofs.Offered.{found, command_of}

attempt_in : Standing → ℕ
attempt_in (Busy n t) = n.0
attempt_in x = 0

sent_last : (b : Bool) (m : Attempt) (u : Tag) (x : Standing) (k : ℕ) (n : Attempt) (t : Tag) → (x ≡ Busy n t → k ≡ n.0) → cond b (Busy m u) x ≡ Busy n t → cond b m.0 k ≡ n.0
unfolding attempt_in
sent_last true m u x k n t before busy = ap attempt_in busy
sent_last false m u x k n t before busy = before busy

still_busy : (b : Bool) (y x : Standing) (n : Attempt) (t : Tag) → is_busy y ≡ false → cond b y x ≡ Busy n t → x ≡ Busy n t
still_busy true y x n t idle busy = absurd (false≢true (sym idle ∙ ap is_busy busy))
still_busy false y x n t idle busy = busy

-- the last attempt of a busy command is the one that it is busy with
busy_is_last : (c : ℕ) (n : Attempt) (t : Tag) (P : List Entry) → standing c P ≡ Busy n t → attempt_of c P ≡ n.0
busy_is_last c n t [] busy = absurd (false≢true (ap is_busy busy))
busy_is_last c n t (entry.Sent d m u ∷ P) busy = sent_last (d.0 == c) m u (standing c P) (attempt_of c P) n t (busy_is_last c n t P) busy
busy_is_last c n t (entry.Took d ∷ P) busy = busy_is_last c n t P (still_busy (d.0 == c) Waits (standing c P) n t refl busy)
busy_is_last c n t (entry.Bounced d m why ∷ P) busy = busy_is_last c n t P (still_busy (d.0 == c) Waits (standing c P) n t refl busy)
busy_is_last c n t (entry.Again d counted ∷ P) busy = busy_is_last c n t P (still_busy (d.0 == c) Waits (standing c P) n t refl busy)
busy_is_last c n t (entry.Told d a ∷ P) busy = busy_is_last c n t P (still_busy (d.0 == c) Ended (standing c P) n t refl busy)
busy_is_last c n t (e ∷ P) busy = busy_is_last c n t P busy

-- a call about an attempt that its command is busy with fits
pub fits_last : (s : HostSpec) (P : List Entry) (r : Running) → HostAgrees s P r → (n : Attempt) (row : Row) → row_of n.0 r.attempts.rows.items ≡ Some row
    → standing row.command.0 P ≡ Busy n row.tag → (k : CmdSpec) → slice_get s.cmds row.place ≡ Some k → FitsLast s P row.command k n.0 k.dev
fits_last s P r runs n row there busy k k_at = record {
  sent = (runs.attempts.0.rows n.0).0 ∙ ap (λ (x : Option Row). is_some x) there;
  sent_for = (runs.attempts.0.rows n.0).6 ∙ ap command_in there;
  last = busy_is_last row.command.0 n row.tag P busy;
  command = ap (λ (c : CmdId). find_command s c.0) (sym (id_of s P r runs n.0 row there k k_at)) ∙ found s P r runs row.place k k_at;
  dev_is = refl;
}

-- the timeout of its command
pub timeout_is : (s : HostSpec) (P : List Entry) (r : Running) → HostAgrees s P r → (n : Attempt) (row : Row) → row_of n.0 r.attempts.rows.items ≡ Some row
    → (k : CmdSpec) → slice_get s.cmds row.place ≡ Some k → timeout_of s P n.0 ≡ k.timeout
timeout_is s P r runs n row there k k_at =
    let sent : sent_for n.0 P ≡ row.command.0 = (runs.attempts.0.rows n.0).6 ∙ ap command_in there in
    let named : command s row.command.0 ≡ k = ap (λ (c : CmdId). command s c.0) (sym (id_of s P r runs n.0 row there k k_at)) ∙ command_of s P r runs row.place k k_at in
    ap (λ (m : ℕ). (command s m).timeout) sent ∙ ap (λ (j : CmdSpec). j.timeout) named

-- an attempt whose time is up is that of a busy command
pub asked_busy : (s : HostSpec) (P : List Entry) (r : Running) → HostAgrees s P r → (n : Attempt) → IsAsked r n → (row : Row) → row_of n.0 r.attempts.rows.items ≡ Some row
    → standing row.command.0 P ≡ Busy n row.tag
asked_busy s P r runs n asked row there = (runs.under_way n.0 row there (sym (ap live_in there) ∙ (waits_of s P r runs n asked.due).lives)).0

pub asked_has_row : (s : HostSpec) (P : List Entry) (r : Running) → HostAgrees s P r → (n : Attempt) → IsAsked r n → row_of n.0 r.attempts.rows.items ≡ None → ⊥
asked_has_row s P r runs n asked none = false≢true (ap open_in (sym none) ∙ (waits_of s P r runs n asked.due).opened)

pub first_is_busy : (s : HostSpec) (P : List Entry) (r : Running) → HostAgrees s P r → (n : Attempt) (row : Row) → IsFirstAbort r n row → standing row.command.0 P ≡ Busy n row.tag
first_is_busy s P r runs n row first = (first_busy s P r runs n row first.first first.at).1

-- an attempt whose time is up, where there is more room
pub still_asked : (s : HostSpec) (P : List Entry) (old new : Running) (n : Attempt) → HostAgrees s P new → new.deadlines ≡ old.deadlines → new.ticks ≡ old.ticks → IsAsked old n → IsAsked new n
still_asked s P old new n runs deadlines ticks asked = record {
  spec = s;
  entries = P;
  runs = runs;
  due =
      subst (λ (m : ℕ). IsDueAt n.0 m new.deadlines.timers.timers) (sym ticks)
      (subst (λ (d : Deadlines). IsDueAt n.0 old.ticks d.timers.timers) (sym deadlines) asked.due);
}
