use Rattle.std.proofs.Common.{◌≡◌, ◌∙◌, ap, refl, false, ◌∷◌, Some}
use Rattle.mid_base.specs.declared.entries.Entry.TheVariants as entry
use Rattle.trace_model.specs.declared.standing.Standing.TheVariants.{Waits, Ended}
use Rattle.std.specs.Prelude.{slice_get}
use Rattle.trace_model.specs.Commands.{standing, is_busy}
use Rattle.command_table.specs.declared.rows.CommandRow.{CommandRow}
use Rattle.command_table.specs.Rows.{id_at}
use Rattle.attempt_table.proofs.Told.{tells_apart}
use Rattle.device_table.proofs.Entries.{not_busy_told}
use Rattle.host_state.proofs.Failed.{idle_verdicts}
use Rattle.host_state.proofs.Ties.{command_stands, idle_under_way, same_ids, unheld}
use Rattle.host_state.proofs.Timed.{timed_apart}
use Rattle.host_state.proofs.Failing.{idle_told, idle_unaborted}
use Rattle.host_state.proofs.Kept.{kept_same, placed_at, aborting_apart}
use Rattle.host_state.proofs.Settled.{unscheduled}
use Rattle.host_state.proofs.running.Running.strand.Goals as goal

pub returns-clause-runs : goal.returns-clause-runs
returns-clause-runs c s P id a is r =
    let old = c.args.self.now in
    let rows = old.commands.rows.items in
    let picked = c.requires.picked in
    let there : (x : CommandRow) × (slice_get rows c.args.place ≡ Some x) × (x.standing ≡ Waits) = (picked.row, picked.row_at, picked.waits) in
    let idle : is_busy (standing id.0 P) ≡ false = ap is_busy (command_stands s P old.commands r.commands c.args.place there.0 there.1 id is ∙ there.2) in
    let commands = c.tell.ensures.follows s P id a is r.commands in
    record {
      limits = r.limits;
      attempts = tells_apart s P old.attempts (entry.Told id a) tt r.attempts;
      commands = commands;
      devices = not_busy_told s P old.devices id a idle r.devices;
      timed = timed_apart s P old.deadlines old.attempts.tags.items r.timed (entry.Told id a) tt;
      time = r.time;
      early = r.early;
      few = r.few;
      failures = idle_told s P old.failures id a idle r.failures;
      verdicts = idle_verdicts s P old id a idle r;
      placed = placed_at old.attempts.rows.items rows c.tell.new.self.rows.items (same_ids s P (entry.Told id a ∷ P) old.commands c.tell.new.self r.commands commands) r.placed;
      aborting =
          aborting_apart P (entry.Told id a ∷ P) old.attempts.rows.items old.attempts.rows.items (kept_same old.attempts.rows.items old.attempts.rows.items refl) id.0 Ended (λ d. refl) old.failures.work.waiting
          (unscheduled s P old r id.0 (idle_unaborted s P old.failures r.failures id.0 idle)) r.aborting;
      tagged = r.tagged;
      under_way = idle_under_way P (entry.Told id a ∷ P) old.attempts.rows.items id.0 Ended idle (λ d. refl) (λ d. refl) (λ d. refl) r.under_way;
      held_back = unheld s P (entry.Told id a ∷ P) id.0 Ended refl (λ d. refl) (λ u. refl) (λ n. refl) r.held_back;
    }
