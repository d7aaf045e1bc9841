-- What is known of an attempt whose time is up.
use Rattle.std.proofs.Common.{◌≡◌, ◌∙◌, sym, ap, refl, ℕ, Bool, true, false, not, ◌&&◌, List, Option, Some, None}
use Rattle.std.specs.Prelude.{slice_get}
use Rattle.std.proofs.lemmas.Bool.{and_parts, not-true}
use Rattle.mid_base.specs.declared.answers.By.{By}
use Rattle.mid_base.specs.declared.answers.TagState.TheVariants as tag
use Rattle.mid_base.specs.declared.entries.Entry.{Entry}
use Rattle.mid_base.specs.declared.host_spec.HostSpec.{HostSpec}
use Rattle.mid_base.specs.declared.names.Attempt.{Attempt}
use Rattle.trace_model.specs.Attempts.{is_open, is_due, is_said_done}
use Rattle.trace_model.specs.Tags.{state_by}
use Rattle.attempt_table.specs.Rows.{row_of, open_in, due_in, settled_in, owner_in, owned_in, live_in, tag_in, shown_in}
use Rattle.attempt_table.proofs.Bools.{or_first}
use Rattle.attempt_table.proofs.Told.{live_tag_is_shown}
use Rattle.deadline_table.specs.DeadlinesAgree.{IsDueAt}
use Rattle.deadline_table.proofs.Changes.{timer_tells}
use Rattle.host_state.specs.declared.running.Running.{Running}
use Rattle.host_state.specs.HostAgrees.{HostAgrees}

-- it is open, wasn't asked about yet, and its tag shows it
pub record Waits (r : Running) (n : Attempt) : Type 0 where
  pub opened : open_in (row_of n.0 r.attempts.rows.items) ≡ true
  pub in_time : due_in (row_of n.0 r.attempts.rows.items) ≡ false
  pub lives : live_in (row_of n.0 r.attempts.rows.items) ≡ true
  pub armed : slice_get r.attempts.tags.items (tag_in (row_of n.0 r.attempts.rows.items)).0 ≡ Some (tag.Armed n)

pub waits_of : (s : HostSpec) (P : List Entry) (r : Running) → HostAgrees s P r → (n : Attempt) → IsDueAt n.0 r.ticks r.deadlines.timers.timers → Waits r n
waits_of s P r runs n due =
    let x = row_of n.0 r.attempts.rows.items in
    let timed = (timer_tells s P r.deadlines.timers.timers runs.timed.agrees n.0 due.0 due.1).0 in
    let outer = and_parts (is_open n.0 P && not (is_due n.0 P)) (not (is_said_done n.0 P)) timed in
    let inner = and_parts (is_open n.0 P) (not (is_due n.0 P)) outer.0 in
    let reads = runs.attempts.0.rows n.0 in
    let opened : open_in x ≡ true = sym reads.1 ∙ inner.0 in
    let lives : live_in x ≡ true = or_first (open_in x) (owned_in x) opened in
    record {
      opened = opened;
      in_time = sym reads.8 ∙ not-true (is_due n.0 P) inner.1;
      lives = lives;
      armed = live_tag_is_shown s P r.attempts runs.attempts n.0 lives ∙ ap Some (ap (λ (b : Bool). state_by n.0 b (settled_in x) (owner_in x)) opened);
    }
