use Rattle.std.proofs.Common.{◌≡◌, ap, refl, ℕ, Option, ◌∷◌}
use Rattle.std.specs.Prelude.{is_some}
use Rattle.mid_base.specs.declared.entries.Entry.TheVariants as entry
use Rattle.attempt_table.proofs.Told.{tells_apart}
use Rattle.command_table.proofs.Entries.{follows_apart}
use Rattle.device_table.proofs.Entries.{keeps_apart}
use Rattle.failure_table.proofs.Agree.{agrees_apart}
use Rattle.verdict_table.proofs.Agree.{verdicts_apart}
use Rattle.host_state.proofs.Asked.{waits_of}
use Rattle.host_state.proofs.Kept.{aborting_still}
use Rattle.host_state.proofs.Timed.{timed_dropped}
use Rattle.host_state.proofs.running.Running.say_done.Goals as goal

pub say_done-requires : goal.say_done-requires
say_done-requires c = ap (λ (x : Option ℕ). is_some x) c.requires.due.1

pub returns-clause-runs : goal.returns-clause-runs
returns-clause-runs c s P r =
    let old = c.args.self.now in
    let n = c.args.n in
    let said = entry.DoneSaid n in
    record {
      limits = r.limits;
      attempts = tells_apart s P old.attempts said tt r.attempts;
      commands = follows_apart s P old.commands said tt r.commands;
      devices = keeps_apart s P old.devices said tt r.devices;
      timed =
          timed_dropped s P old.deadlines old.attempts.tags.items r.timed old.attempts r.attempts refl (said ∷ P) c.say_done.new.self n
          (waits_of s P old r n c.requires.due).armed c.say_done.ensures.timers (c.say_done.ensures.tells s P r.timed.agrees);
      time = r.time;
      early = r.early;
      few = r.few;
      failures = agrees_apart s P old.failures said tt r.failures;
      verdicts = verdicts_apart s P old.verdicts said tt r.verdicts;
      under_way = r.under_way;
      placed = r.placed;
      aborting = aborting_still P (said ∷ P) old.attempts.rows.items (λ k. refl) old.failures.work.waiting r.aborting;
      held_back = r.held_back;
      tagged = r.tagged;
    }
