use Rattle.std.proofs.Common.{ap, refl, ℕ, ◌+◌, ◌∷◌, arith}
use Rattle.mid_base.specs.declared.entries.Entry.TheVariants as entry
use Rattle.attempt_table.proofs.Told.{tells_apart}
use Rattle.command_table.proofs.Entries.{follows_apart}
use Rattle.deadline_table.proofs.Entries.{says_tick}
use Rattle.deadline_table.proofs.Queries.{none_expired}
use Rattle.failure_table.proofs.Agree.{agrees_apart}
use Rattle.verdict_table.proofs.Agree.{verdicts_apart}
use Rattle.host_state.proofs.Kept.{aborting_still}
use Rattle.host_state.proofs.running.Running.tick.Goals as goal

pub returns-clause-runs : goal.returns-clause-runs
returns-clause-runs c s P none r =
    let old = c.args.self.now in
    record {
      limits = r.limits;
      attempts = tells_apart s P old.attempts entry.Tick tt r.attempts;
      commands = follows_apart s P old.commands entry.Tick tt r.commands;
      devices = c.tick.ensures.keeps s P r.devices;
      timed = record { agrees = says_tick s P old.deadlines.timers.timers r.timed.agrees (none_expired s P none); most = r.timed.most; count = r.timed.count };
      time = ap (λ (n : ℕ). n + 1) r.time;
      early = omega (arith, c.requires);
      few = r.few;
      failures = agrees_apart s P old.failures entry.Tick tt r.failures;
      verdicts = verdicts_apart s P old.verdicts entry.Tick tt r.verdicts;
      placed = r.placed;
      aborting = aborting_still P (entry.Tick ∷ P) old.attempts.rows.items (λ k. refl) old.failures.work.waiting r.aborting;
      tagged = r.tagged;
      under_way = r.under_way;
      held_back = r.held_back;
    }
