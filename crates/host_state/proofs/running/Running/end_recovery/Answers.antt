use Rattle.std.proofs.Common.{refl, sym, ap, subst, List, ◌∷◌}
use Rattle.mid_base.specs.declared.entries.Entry.TheVariants.{EhEnd}
use Rattle.attempt_table.proofs.Told.{tells_apart}
use Rattle.command_table.proofs.Entries.{follows_apart}
use Rattle.device_table.proofs.Entries.{keeps_apart}
use Rattle.verdict_table.proofs.Agree.{verdicts_apart}
use Rattle.failure_table.specs.FailuresAgree.{Abort}
use Rattle.host_state.specs.HostAgrees.{AreAborting}
use Rattle.host_state.proofs.Kept.{aborting_still}
use Rattle.host_state.proofs.Timed.{timed_apart}
use Rattle.host_state.proofs.running.Running.end_recovery.Goals as goal

pub returns-clause-runs : goal.returns-clause-runs
returns-clause-runs c s P r =
    let old = c.args.self.now in
    record {
      limits = r.limits;
      attempts = tells_apart s P old.attempts EhEnd tt r.attempts;
      commands = follows_apart s P old.commands EhEnd tt r.commands;
      devices = keeps_apart s P old.devices EhEnd tt r.devices;
      timed = timed_apart s P old.deadlines old.attempts.tags.items r.timed EhEnd tt;
      time = r.time;
      early = r.early;
      few = r.few;
      failures = c.end.ensures.tells s P r.failures;
      verdicts = verdicts_apart s P old.verdicts EhEnd tt r.verdicts;
      under_way = r.under_way;
      placed = r.placed;
      aborting =
          subst (λ (xs : List Abort). AreAborting (EhEnd ∷ P) old.attempts.rows.items xs) (sym (ap (λ (q : _). q.waiting) c.end.ensures.rest.1))
          (aborting_still P (EhEnd ∷ P) old.attempts.rows.items (λ k. refl) old.failures.work.waiting r.aborting);
      held_back = r.held_back;
      tagged = r.tagged;
    }
