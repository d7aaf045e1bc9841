use Rattle.std.proofs.Common.{◌≡◌, ap, sym, subst, refl, ℕ, ◌<◌, ◌^◌, List, length, ◌∷◌}
use Rattle.mid_base.specs.declared.answers.TagState.{TagState}
use Rattle.mid_base.specs.declared.entries.Entry.TheVariants as entry
use Rattle.attempt_table.specs.declared.rows.Row.{Row}
use Rattle.command_table.proofs.Entries.{follows_apart}
use Rattle.device_table.proofs.Entries.{keeps_apart}
use Rattle.failure_table.proofs.Agree.{agrees_apart}
use Rattle.host_state.specs.HostAgrees.{AreUnderWay, ArePlaced, IsTimed}
use Rattle.verdict_table.proofs.Agree.{verdicts_apart}
use Rattle.host_state.proofs.Kept.{kept_same, aborting_alike}
use Rattle.host_state.proofs.Timed.{timed_apart}
use Rattle.host_state.proofs.running.Running.drop_late.Goals as goal

pub returns-clause-runs : goal.returns-clause-runs
returns-clause-runs c s P r =
    let old = c.args.self.now in
    let rows = old.attempts.rows.items in
    let late = entry.Late c.args.n in
    let here = c.drop_late.ensures in
    record {
      limits = r.limits;
      attempts = here.tells s P r.attempts;
      commands = follows_apart s P old.commands late tt r.commands;
      devices = keeps_apart s P old.devices late tt r.devices;
      timed = subst (λ (xs : List TagState). IsTimed s (late ∷ P) old.deadlines xs) (sym here.tags) (timed_apart s P old.deadlines old.attempts.tags.items r.timed late tt);
      time = r.time;
      early = r.early;
      few = subst (λ (xs : List Row). length xs < 2 ^ 60) (sym here.rows) r.few;
      failures = agrees_apart s P old.failures late tt r.failures;
      verdicts = verdicts_apart s P old.verdicts late tt r.verdicts;
      under_way = subst (λ (xs : List Row). AreUnderWay P xs) (sym here.rows) r.under_way;
      placed = subst (λ (xs : List Row). ArePlaced xs old.commands.rows.items) (sym here.rows) r.placed;
      aborting =
          aborting_alike P (late ∷ P) rows c.drop_late.new.self.rows.items (kept_same rows c.drop_late.new.self.rows.items here.rows) (λ k. refl)
          old.failures.work.waiting r.aborting;
      held_back = r.held_back;
      tagged = r.tagged;
    }
