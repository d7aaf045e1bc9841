use Rattle.std.proofs.Common.{◌≡◌, ◌∙◌, ap, refl, false, ◌∷◌}
use Rattle.mid_base.specs.declared.entries.Entry.TheVariants as entry
use Rattle.trace_model.specs.declared.standing.Standing.TheVariants.{New, Waits}
use Rattle.trace_model.specs.Commands.{standing, is_busy}
use Rattle.attempt_table.proofs.Told.{tells_apart}
use Rattle.device_table.proofs.Entries.{not_busy_took}
use Rattle.verdict_table.proofs.Agree.{verdicts_apart}
use Rattle.host_state.proofs.Ties.{stands_at, command_stands, idle_under_way, unheld, same_ids}
use Rattle.std.proofs.lemmas.Result.{on_ok_weaker, on_err_weaker}
use Rattle.host_state.proofs.Timed.{timed_apart}
use Rattle.host_state.proofs.Failing.{idle_took, idle_unaborted}
use Rattle.host_state.proofs.Kept.{kept_same, placed_at, aborting_apart}
use Rattle.host_state.proofs.Settled.{unscheduled}
use Rattle.host_state.proofs.running.Running.take.Goals as goal

pub returns-clause-runs : goal.returns-clause-runs
returns-clause-runs c =
    let old = c.args.self.now in
    let there = stands_at old.commands.rows.items c.args.place New c.requires.fresh in
    on_ok_weaker c.take.result (λ follows s P id is r.
    let idle : is_busy (standing id.0 P) ≡ false = ap is_busy (command_stands s P old.commands r.commands c.args.place there.0 there.1 id is ∙ there.2) in
    record {
      limits = r.limits;
      attempts = tells_apart s P old.attempts (entry.Took id) tt r.attempts;
      commands = follows s P id is r.commands;
      devices = not_busy_took s P old.devices id idle r.devices;
      timed = timed_apart s P old.deadlines old.attempts.tags.items r.timed (entry.Took id) tt;
      time = r.time;
      early = r.early;
      few = r.few;
      failures = idle_took s P old.failures id idle r.failures;
      verdicts = verdicts_apart s P old.verdicts (entry.Took id) tt r.verdicts;
      placed = placed_at old.attempts.rows.items old.commands.rows.items c.take.new.self.rows.items (same_ids s P (entry.Took id ∷ P) old.commands c.take.new.self r.commands (follows s P id is r.commands)) r.placed;
      aborting =
          aborting_apart P (entry.Took id ∷ P) old.attempts.rows.items old.attempts.rows.items (kept_same old.attempts.rows.items old.attempts.rows.items refl) id.0 Waits (λ d. refl) old.failures.work.waiting
          (unscheduled s P old r id.0 (idle_unaborted s P old.failures r.failures id.0 idle)) r.aborting;
      tagged = r.tagged;
      under_way = idle_under_way P (entry.Took id ∷ P) old.attempts.rows.items id.0 Waits idle (λ d. refl) (λ d. refl) (λ d. refl) r.under_way;
      held_back = unheld s P (entry.Took id ∷ P) id.0 Waits refl (λ d. refl) (λ u. refl) (λ n. refl) r.held_back;
    }) c.take.ensures.follows

pub returns-clause-same : goal.returns-clause-same
returns-clause-same c =
    let old = c.args.self.now in
    on_err_weaker c.take.result (λ same s P r. record {
      limits = r.limits;
      attempts = r.attempts;
      commands = same s P r.commands;
      devices = r.devices;
      timed = r.timed;
      time = r.time;
      early = r.early;
      few = r.few;
      failures = r.failures;
      verdicts = r.verdicts;
      placed = placed_at old.attempts.rows.items old.commands.rows.items c.take.new.self.rows.items (same_ids s P P old.commands c.take.new.self r.commands (same s P r.commands)) r.placed;
      aborting = r.aborting;
      tagged = r.tagged;
      under_way = r.under_way;
      held_back = r.held_back;
    }) c.take.ensures.same
