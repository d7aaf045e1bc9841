use Rattle.std.proofs.Common.{◌≡◌, refl, ℕ, ◌+◌, ◌∷◌}
use Rattle.mid_base.specs.declared.entries.Entry.TheVariants as entry
use Rattle.attempt_table.proofs.Told.{tells_apart}
use Rattle.command_table.proofs.Entries.{follows_apart}
use Rattle.device_table.proofs.Entries.{keeps_apart}
use Rattle.failure_table.proofs.Agree.{agrees_apart}
use Rattle.verdict_table.proofs.Agree.{verdicts_apart}
use Rattle.host_state.proofs.Kept.{aborting_still}
use Rattle.host_state.proofs.Timed.{timed_longer}
use Rattle.host_state.proofs.running.Running.lengthen.Goals as goal

pub lengthen-requires-clause-due : goal.lengthen-requires-clause-due
lengthen-requires-clause-due c = c.requires.due

pub lengthen-requires-clause-early : goal.lengthen-requires-clause-early
lengthen-requires-clause-early c = c.requires.runs.early

pub returns-clause-runs : goal.returns-clause-runs
returns-clause-runs c s P timeout r =
    let old = c.args.self.now in
    let n = c.args.n in
    let said = entry.Longer n in
    record {
      limits = r.limits;
      attempts = tells_apart s P old.attempts said tt r.attempts;
      commands = follows_apart s P old.commands said tt r.commands;
      devices = keeps_apart s P old.devices said tt r.devices;
      timed =
          timed_longer s P old.deadlines old.attempts.tags.items r.timed (said ∷ P) c.lengthen.new.self n c.requires.due.0 (old.ticks + c.args.timeout) c.requires.due.1
          c.lengthen.ensures.timers c.lengthen.ensures.count c.lengthen.ensures.most (c.lengthen.ensures.tells s P r.timed.agrees r.time timeout);
      time = r.time;
      early = r.early;
      few = r.few;
      failures = agrees_apart s P old.failures said tt r.failures;
      verdicts = verdicts_apart s P old.verdicts said tt r.verdicts;
      under_way = r.under_way;
      placed = r.placed;
      aborting = aborting_still P (said ∷ P) old.attempts.rows.items (λ k. refl) old.failures.work.waiting r.aborting;
      held_back = r.held_back;
      tagged = r.tagged;
    }
