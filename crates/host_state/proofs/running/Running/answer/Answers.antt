use Rattle.std.proofs.Common.{◌≡◌, ◌∙◌, sym, ap, subst, refl, ℕ, ◌<◌, ◌^◌, true, not, List, length, Some, ◌∷◌, inl, inr}
use Rattle.mid_base.specs.declared.entries.Entry.TheVariants as entry
use Rattle.std.proofs.lemmas.Bool.{cases_Bool}
use Rattle.attempt_table.specs.declared.rows.Row.{Row}
use Rattle.attempt_table.specs.Rows.{row_of, with_answer, open_in, answered_in, owned_in, live_in, wanting_in}
use Rattle.attempt_table.proofs.Places.{rows_length}
use Rattle.command_table.proofs.Entries.{follows_apart}
use Rattle.device_table.proofs.Entries.{keeps_apart}
use Rattle.host_state.specs.HostAgrees.{AreUnderWay, ArePlaced}
use Rattle.verdict_table.proofs.Agree.{verdicts_answered}
use Rattle.host_state.proofs.Kept.{AreKept, kept_moved, kept_same, placed_moved, aborting_alike}
use Rattle.host_state.proofs.Moving.{moves_under_way}
use Rattle.host_state.proofs.Timed.{timed_apart}
use Rattle.attempt_table.proofs.Bools.{and_first, or_first}
use Rattle.failure_table.proofs.Agree.{agrees_apart}
use Rattle.host_state.proofs.running.Running.answer.Goals as goal

pub returns-clause-runs : goal.returns-clause-runs
returns-clause-runs c s P r =
    let old = c.args.self.now in
    let rows = old.attempts.rows.items in
    let new = c.answer.new.self.rows.items in
    let commands = old.commands.rows.items in
    let n = c.args.n.0 in
    let came = entry.Ready c.args.n c.args.a in
    let here = c.answer.ensures in
    let wanting = wanting_in (row_of n rows) in
    let rest : (length new ≡ length rows) × AreUnderWay P new × ArePlaced new commands × AreKept rows new =
    elim (cases_Bool wanting) as (λ _. (length new ≡ length rows) × AreUnderWay P new × ArePlaced new commands × AreKept rows new) [
      | inl is ↦
          let moves = here.good is in
          let opened : open_in (row_of n rows) ≡ true = and_first (open_in (row_of n rows)) (not (answered_in (row_of n rows))) is in
          let lives : live_in (Some moves.row) ≡ true = sym (ap live_in moves.was) ∙ or_first (open_in (row_of n rows)) (owned_in (row_of n rows)) opened in (
            rows_length n with_answer rows new moves,
            moves_under_way P n with_answer rows new moves (refl, refl, refl, λ has. has) lives r.under_way,
            placed_moved n with_answer rows new commands moves (refl, refl, refl, λ has. has) r.placed,
            kept_moved n with_answer rows new moves (refl, refl, refl, λ has. has),
          )
      | inr isnt ↦ (
        ap length (here.late isnt),
        subst (λ (xs : List Row). AreUnderWay P xs) (sym (here.late isnt)) r.under_way,
        subst (λ (xs : List Row). ArePlaced xs commands) (sym (here.late isnt)) r.placed,
        kept_same rows new (here.late isnt),
      )
    ]
    in
    record {
      limits = r.limits;
      attempts = here.tells s P r.attempts;
      commands = follows_apart s P old.commands came tt r.commands;
      devices = keeps_apart s P old.devices came tt r.devices;
      timed = rw here.tags (timed_apart s P old.deadlines old.attempts.tags.items r.timed came tt);
      time = r.time;
      early = r.early;
      few = subst (λ (k : ℕ). k < 2 ^ 60) (sym rest.0) r.few;
      failures = agrees_apart s P old.failures came tt r.failures;
      verdicts = verdicts_answered s P old.verdicts c.args.n c.args.a r.verdicts;
      under_way = rest.1;
      placed = rest.2;
      aborting = aborting_alike P (came ∷ P) rows new rest.3 (λ k. refl) old.failures.work.waiting r.aborting;
      held_back = r.held_back;
      tagged = r.tagged;
    }
