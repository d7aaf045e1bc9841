use Rattle.std.proofs.Common.{◌≡◌, ◌∙◌, sym, ap, subst, refl, ℕ, ◌<◌, ◌^◌, ◌==◌, Bool, true, false, cond, List, ◌∷◌, ◌++◌, Option, Some}
use Rattle.std.specs.Prelude.{option_map, is_some}
use Rattle.std.proofs.lemmas.Bool.{eq-eqb, and_from}
use Rattle.std.proofs.lemmas.Option.{same_Some}
use Rattle.mid_base.specs.declared.answers.By.TheVariants.{Expiry as ByExpiry}
use Rattle.mid_base.specs.declared.entries.Entry.TheVariants as entry
use Rattle.mid_base.specs.Past.{was_sent, sent_for}
use Rattle.trace_model.specs.declared.standing.Standing.{Standing}
use Rattle.trace_model.specs.declared.standing.Standing.TheVariants.{Busy}
use Rattle.trace_model.specs.Commands.{is_busy, failed_since_sent}
use Rattle.attempt_table.specs.declared.rows.Row.{Row}
use Rattle.attempt_table.specs.Rows.{at_end, command_in}
use Rattle.attempt_table.proofs.Places.{rows_length, row_here}
use Rattle.command_table.specs.declared.rows.CommandRow.{CommandRow}
use Rattle.command_table.proofs.Entries.{follows_apart}
use Rattle.device_table.proofs.Entries.{keeps_apart}
use Rattle.failure_table.specs.FailuresAgree.{Abort, is_aborting, is_for}
use Rattle.host_state.specs.HostAgrees.{AreAborting}
use Rattle.host_state.proofs.Failed.{fails_cancelled, verdict_room}
use Rattle.host_state.proofs.Failing.{room_to_fail, room_to_schedule}
use Rattle.host_state.proofs.Kept.{kept_moved, placed_moved, placed_at, aborting_alike, aborting_pushed}
use Rattle.host_state.proofs.Settled.{settles, under_way_of, settled_under_way, settled_timed, tag_freed}
use Rattle.host_state.proofs.Ties.{same_ids, out_alike}
use Rattle.host_state.proofs.Timed.{timed_apart}
use Rattle.host_state.proofs.running.Running.cancel.Goals as goal

pub fail-requires : goal.fail-requires
fail-requires c =
    let old = c.args.self.now in
    let asked = c.requires in
    let owned = settles asked.spec asked.entries old asked.runs c.args.n c.args.row ByExpiry asked.is in
    let going = (under_way_of asked.spec asked.entries old asked.runs c.args.n c.args.row ByExpiry asked.is).1 in
    room_to_fail asked.spec asked.entries old.failures asked.runs.failures c.args.row.command owned.known going

pub fail-requires-2 : goal.fail-requires-2
fail-requires-2 c =
    let old = c.args.self.now in
    let asked = c.requires in
    let owned = settles asked.spec asked.entries old asked.runs c.args.n c.args.row ByExpiry asked.is in
    let going = (under_way_of asked.spec asked.entries old asked.runs c.args.n c.args.row ByExpiry asked.is).1 in
    verdict_room asked.spec asked.entries old asked.runs c.args.row.command (room_to_fail asked.spec asked.entries old.failures asked.runs.failures c.args.row.command owned.known going)

pub returns-clause-runs : goal.returns-clause-runs
returns-clause-runs c s P r =
    let old = c.args.self.now in
    let rows = old.attempts.rows.items in
    let n = c.args.n in
    let row = c.args.row in
    let is = c.requires.is in
    let live = under_way_of s P old r n row ByExpiry is in
    let owned = settles s P old r n row ByExpiry is in
    let e = entry.Failed row.command n true in
    let moves = c.settle.ensures.rows in
    let new = c.settle.new.self.rows.items in
    let was : row ≡ moves.row = same_Some row moves.row (sym is.at ∙ moves.was) in
    let kept = kept_moved n.0 at_end rows new moves (refl, refl, refl, λ has. has) in
    let placed = placed_moved n.0 at_end rows new old.commands.rows.items moves (refl, refl, refl, λ has. has) r.placed in
    let deadlines = (timed_apart s P old.deadlines old.attempts.tags.items r.timed e tt).agrees in
    record {
      limits = r.limits;
      attempts = c.settle.ensures.tells s P e refl r.attempts;
      commands = follows_apart s P old.commands e tt r.commands;
      devices = keeps_apart s P old.devices e tt r.devices;
      timed = settled_timed s P old r n row ByExpiry is (e ∷ P) c.settle.new.self.tags.items c.settle.ensures.tags deadlines;
      time = r.time;
      early = r.early;
      few = subst (λ (k : ℕ). k < 2 ^ 60) (sym (rows_length n.0 at_end rows new moves)) r.few;
      failures = c.fail.ensures.tells s P r.failures owned.known live.1;
      verdicts = c.fail-2.ensures.tells s P r.verdicts (fails_cancelled s P old r n row ByExpiry is);
      under_way =
          settled_under_way s P (e ∷ P) old r n row ByExpiry is new moves
          (λ k isnt. (refl, out_alike k P (e ∷ P) refl (ap (λ (b : Bool). cond b true (failed_since_sent k P)) isnt) refl));
      placed = placed;
      aborting =
          subst (λ (xs : List Abort). AreAborting (e ∷ P) new xs) (sym (ap (λ (q : _). q.waiting) c.fail.ensures.rest))
          (aborting_alike P (e ∷ P) rows new kept (λ k. refl) old.failures.work.waiting r.aborting);
      held_back = r.held_back;
      tagged = r.tagged;
    }

pub returns-clause-shown : goal.returns-clause-shown
returns-clause-shown c =
    let asked = c.requires in
    tag_freed asked.spec asked.entries c.args.self.now asked.runs c.args.n c.args.row ByExpiry asked.is c.settle.new.self.tags.items c.settle.ensures.tags
