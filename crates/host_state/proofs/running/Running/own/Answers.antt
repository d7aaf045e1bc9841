use Rattle.std.proofs.Common.{◌≡◌, ◌∙◌, sym, ap, subst, refl, ℕ, ◌<◌, ◌^◌, true, Option, Some, ◌∷◌}
use Rattle.mid_base.specs.declared.answers.By.{By}
use Rattle.mid_base.specs.declared.answers.By.TheVariants.{Answer as ByAnswer, Expiry as ByExpiry}
use Rattle.mid_base.specs.declared.answers.TagState.TheVariants as tag
use Rattle.mid_base.specs.declared.entries.Entry.TheVariants as entry
use Rattle.attempt_table.specs.declared.rows.Row.{Row}
use Rattle.attempt_table.specs.Rows.{row_of, given_to, open_in, answered_in, due_in, owned_in, live_in, tag_in, claims_by}
use Rattle.attempt_table.proofs.Bools.{and_first, or_first}
use Rattle.attempt_table.proofs.Places.{rows_length}
use Rattle.command_table.proofs.Entries.{follows_apart}
use Rattle.device_table.proofs.Entries.{keeps_apart}
use Rattle.failure_table.proofs.Agree.{agrees_apart}
use Rattle.verdict_table.proofs.Agree.{verdicts_owned}
use Rattle.host_state.proofs.Kept.{kept_moved, placed_moved, aborting_alike}
use Rattle.host_state.proofs.Moving.{moves_under_way}
use Rattle.host_state.proofs.Timed.{timed_stopped}
use Rattle.host_state.proofs.running.Running.own.Goals as goal

pub own-requires-clause-tied : goal.own-requires-clause-tied
own-requires-clause-tied c = record { spec = c.requires.spec; entries = c.requires.entries; agrees = c.requires.runs.attempts }

claimed_is_open : (by : By) (x : Option Row) → claims_by by x ≡ true → open_in x ≡ true
claimed_is_open ByAnswer x waits = and_first (open_in x) (answered_in x) waits
claimed_is_open ByExpiry x waits = and_first (open_in x) (due_in x) waits

pub returns-clause-runs : goal.returns-clause-runs
returns-clause-runs c s P r =
    let old = c.args.self.now in
    let rows = old.attempts.rows.items in
    let n = c.args.n.0 in
    let by = c.args.by in
    let given = entry.Owned c.args.n by in
    let here = c.own.ensures in
    let moves = here.rows in
    let opened : open_in (row_of n rows) ≡ true = claimed_is_open by (row_of n rows) c.requires.waits in
    let lives : live_in (Some moves.row) ≡ true = sym (ap live_in moves.was) ∙ or_first (open_in (row_of n rows)) (owned_in (row_of n rows)) opened in
    record {
      limits = r.limits;
      attempts = here.tells s P r.attempts;
      commands = follows_apart s P old.commands given tt r.commands;
      devices = keeps_apart s P old.devices given tt r.devices;
      timed =
          rw here.tags
          (timed_stopped s P old.deadlines old.attempts.tags.items r.timed old.attempts r.attempts refl (given ∷ P) c.own-2.new.self c.args.n (tag.Owned c.args.n by) here.armed
          (λ timers. refl) c.own-2.ensures.timers (c.own-2.ensures.tells s P by r.timed.agrees));
      time = r.time;
      early = r.early;
      few = subst (λ (k : ℕ). k < 2 ^ 60) (sym (rows_length n (given_to by) rows c.own.new.self.rows.items moves)) r.few;
      failures = agrees_apart s P old.failures given tt r.failures;
      verdicts = verdicts_owned s P old.verdicts c.args.n by ((r.attempts.0.rows n).1 ∙ opened) r.verdicts;
      under_way = moves_under_way P n (given_to by) rows c.own.new.self.rows.items moves (refl, refl, refl, λ has. refl) lives r.under_way;
      placed = placed_moved n (given_to by) rows c.own.new.self.rows.items old.commands.rows.items moves (refl, refl, refl, λ has. refl) r.placed;
      aborting =
          aborting_alike P (given ∷ P) rows c.own.new.self.rows.items (kept_moved n (given_to by) rows c.own.new.self.rows.items moves (refl, refl, refl, λ has. refl)) (λ k. refl)
          old.failures.work.waiting r.aborting;
      held_back = r.held_back;
      tagged = r.tagged;
    }

pub returns-clause-shown : goal.returns-clause-shown
returns-clause-shown c s P r =
    let here = c.own.ensures in
    ((tag_in (row_of c.args.n.0 c.args.self.now.attempts.rows.items)).0, here.armed, here.tags)
