use Rattle.std.proofs.Common.{◌≡◌, ◌∙◌, sym, ap, subst, refl, ℕ, ◌<◌, ◌^◌, true, List, Option, Some, ◌∷◌}
use Rattle.std.specs.Prelude.{is_some}
use Rattle.mid_base.specs.declared.answers.TagState.{TagState}
use Rattle.mid_base.specs.declared.entries.Entry.TheVariants as entry
use Rattle.attempt_table.specs.Rows.{row_of, expired, live_in}
use Rattle.attempt_table.proofs.Places.{rows_length}
use Rattle.command_table.proofs.Entries.{follows_apart}
use Rattle.device_table.proofs.Entries.{keeps_apart}
use Rattle.failure_table.proofs.Agree.{agrees_apart}
use Rattle.host_state.specs.HostAgrees.{IsTimed}
use Rattle.verdict_table.proofs.Agree.{verdicts_apart}
use Rattle.host_state.proofs.Asked.{waits_of}
use Rattle.host_state.proofs.Kept.{kept_moved, placed_moved, aborting_alike}
use Rattle.host_state.proofs.Moving.{moves_under_way}
use Rattle.host_state.proofs.Timed.{timed_dropped}
use Rattle.host_state.proofs.running.Running.expire.Goals as goal

pub expire-requires-clause-open : goal.expire-requires-clause-open
expire-requires-clause-open c =
    let asked = c.requires.asked in
    (waits_of asked.spec asked.entries c.args.self.now asked.runs c.args.n asked.due).opened

pub expire-requires-clause-in_time : goal.expire-requires-clause-in_time
expire-requires-clause-in_time c =
    let asked = c.requires.asked in
    (waits_of asked.spec asked.entries c.args.self.now asked.runs c.args.n asked.due).in_time

pub expire-requires-2 : goal.expire-requires-2
expire-requires-2 c = ap (λ (x : Option ℕ). is_some x) c.requires.asked.due.1

pub returns-clause-runs : goal.returns-clause-runs
returns-clause-runs c s P r =
    let old = c.args.self.now in
    let rows = old.attempts.rows.items in
    let n = c.args.n in
    let due = entry.Due n in
    let waits = waits_of s P old r n c.requires.asked.due in
    let here = c.expire.ensures in
    let moves = here.rows in
    let new = c.expire.new.self.rows.items in
    let lives : live_in (Some moves.row) ≡ true = sym (ap live_in moves.was) ∙ waits.lives in
    record {
      limits = r.limits;
      attempts = here.tells s P r.attempts;
      commands = follows_apart s P old.commands due tt r.commands;
      devices = keeps_apart s P old.devices due tt r.devices;
      timed =
          subst (λ (xs : List TagState). IsTimed s (due ∷ P) c.expire-2.new.self xs) (sym here.tags)
          (timed_dropped s P old.deadlines old.attempts.tags.items r.timed old.attempts r.attempts refl (due ∷ P) c.expire-2.new.self n waits.armed c.expire-2.ensures.timers
          (c.expire-2.ensures.tells s P r.timed.agrees));
      time = r.time;
      early = r.early;
      few = subst (λ (k : ℕ). k < 2 ^ 60) (sym (rows_length n.0 expired rows new moves)) r.few;
      failures = agrees_apart s P old.failures due tt r.failures;
      verdicts = verdicts_apart s P old.verdicts due tt r.verdicts;
      under_way = moves_under_way P n.0 expired rows new moves (refl, refl, refl, λ has. has) lives r.under_way;
      placed = placed_moved n.0 expired rows new old.commands.rows.items moves (refl, refl, refl, λ has. has) r.placed;
      aborting = aborting_alike P (due ∷ P) rows new (kept_moved n.0 expired rows new moves (refl, refl, refl, λ has. has)) (λ k. refl) old.failures.work.waiting r.aborting;
      held_back = r.held_back;
      tagged = r.tagged;
    }
