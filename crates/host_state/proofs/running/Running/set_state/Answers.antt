use Rattle.std.proofs.Common.{refl, ◌∷◌}
use Rattle.mid_base.specs.declared.entries.Entry.TheVariants as entry
use Rattle.attempt_table.proofs.Told.{tells_apart}
use Rattle.command_table.proofs.Entries.{follows_apart}
use Rattle.verdict_table.proofs.Agree.{verdicts_apart}
use Rattle.host_state.proofs.Timed.{timed_apart}
use Rattle.failure_table.proofs.Agree.{agrees_apart}
use Rattle.host_state.proofs.Kept.{aborting_still}
use Rattle.host_state.proofs.running.Running.set_state.Goals as goal

pub returns-clause-runs : goal.returns-clause-runs
returns-clause-runs c s P d is r =
    let old = c.args.self.now in
    record {
      limits = r.limits;
      attempts = tells_apart s P old.attempts (entry.State d c.args.state) tt r.attempts;
      commands = follows_apart s P old.commands (entry.State d c.args.state) tt r.commands;
      devices = c.set_state.ensures.keeps s P d is r.devices;
      timed = timed_apart s P old.deadlines old.attempts.tags.items r.timed (entry.State d c.args.state) tt;
      time = r.time;
      early = r.early;
      few = r.few;
      failures = agrees_apart s P old.failures (entry.State d c.args.state) tt r.failures;
      verdicts = verdicts_apart s P old.verdicts (entry.State d c.args.state) tt r.verdicts;
      placed = r.placed;
      aborting = aborting_still P (entry.State d c.args.state ∷ P) old.attempts.rows.items (λ k. refl) old.failures.work.waiting r.aborting;
      tagged = r.tagged;
      under_way = r.under_way;
      held_back = r.held_back;
    }
