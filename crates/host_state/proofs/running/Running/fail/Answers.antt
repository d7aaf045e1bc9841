use Rattle.std.proofs.Common.{◌≡◌, ◌∙◌, sym, ap, subst, refl, ℕ, ◌<◌, ◌^◌, Bool, true, false, cond, List, ◌∷◌, length, Option, Some}
use Rattle.std.specs.Prelude.{option_map}
use Rattle.std.proofs.lemmas.Option.{same_Some, slice_get_within}
use Rattle.mid_base.specs.declared.answers.By.TheVariants.{Answer as ByAnswer}
use Rattle.mid_base.specs.declared.answers.Disp.TheVariants.{Fail}
use Rattle.mid_base.specs.declared.entries.Entry.TheVariants as entry
use Rattle.tag_pool.specs.Tags.{is_out}
use Rattle.trace_model.specs.declared.standing.Standing.{Standing}
use Rattle.trace_model.specs.declared.standing.Standing.TheVariants.{Waits, Ended}
use Rattle.trace_model.specs.Commands.{standing, is_busy, failed_since_sent}
use Rattle.attempt_table.specs.Rows.{at_end, answer_in, settled_in}
use Rattle.attempt_table.proofs.Places.{rows_length, row_here}
use Rattle.attempt_table.proofs.Told.{answer_known, tells_apart, tells_again}
use Rattle.command_table.specs.declared.rows.CommandRow.{CommandRow}
use Rattle.command_table.specs.Rows.{is_open}
use Rattle.command_table.proofs.Entries.{follows_apart}
use Rattle.device_table.specs.declared.rows.DeviceRow.{DeviceRow}
use Rattle.device_table.specs.DevicesAgree.{IsOf}
use Rattle.device_table.proofs.Entries.{keeps_apart}
use Rattle.failure_table.specs.FailuresAgree.{Abort}
use Rattle.failure_table.proofs.Agree.{agrees_apart}
use Rattle.failure_table.proofs.Entries.{out_parts}
use Rattle.host_state.specs.HostAgrees.{AreAborting}
use Rattle.host_state.proofs.Failed.{judged_first, fails_judged, verdict_room}
use Rattle.host_state.proofs.Failing.{room_to_fail}
use Rattle.host_state.proofs.Kept.{kept_moved, placed_moved, placed_at, aborting_apart, aborting_alike}
use Rattle.host_state.proofs.Settled.{settles, under_way_of, settled_under_way, settled_timed, same_device, tag_freed, unscheduled}
use Rattle.host_state.proofs.Ties.{same_ids, out_alike, unheld}
use Rattle.host_state.proofs.Timed.{timed_apart}
use Rattle.host_state.proofs.running.Running.fail.Goals as goal

pub row-device-requires : goal.row-device-requires
row-device-requires c =
    let old = c.args.self.now in
    let asked = c.requires in
    let owned = settles asked.spec asked.entries old asked.runs c.args.n c.args.row ByAnswer asked.is in
    slice_get_within old.commands.rows.items c.args.row.place owned.command owned.at

pub judged-requires : goal.judged-requires
judged-requires c =
    let old = c.args.self.now in
    let asked = c.requires in
    let owned = settles asked.spec asked.entries old asked.runs c.args.n c.args.row ByAnswer asked.is in
    let same : c.row-device.result ≡ owned.command = same_Some c.row-device.result owned.command (sym c.row-device.ensures ∙ owned.at) in
    subst (λ (x : CommandRow). x.device < length old.devices.rows.items) (sym same)
    (slice_get_within old.devices.rows.items owned.command.device owned.device.row owned.device.row_at)

pub fail-requires : goal.fail-requires
fail-requires c =
    let old = c.args.self.now in
    let asked = c.requires in
    let owned = settles asked.spec asked.entries old asked.runs c.args.n c.args.row ByAnswer asked.is in
    let going = (under_way_of asked.spec asked.entries old asked.runs c.args.n c.args.row ByAnswer asked.is).1 in
    room_to_fail asked.spec asked.entries old.failures asked.runs.failures c.args.row.command owned.known going

pub fail-requires-2 : goal.fail-requires-2
fail-requires-2 c =
    let old = c.args.self.now in
    let asked = c.requires in
    let owned = settles asked.spec asked.entries old asked.runs c.args.n c.args.row ByAnswer asked.is in
    let going = (under_way_of asked.spec asked.entries old asked.runs c.args.n c.args.row ByAnswer asked.is).1 in
    verdict_room asked.spec asked.entries old asked.runs c.args.row.command (room_to_fail asked.spec asked.entries old.failures asked.runs.failures c.args.row.command owned.known going)

pub returns-clause-runs : goal.returns-clause-runs
returns-clause-runs c s P r =
    let old = c.args.self.now in
    let rows = old.attempts.rows.items in
    let n = c.args.n in
    let row = c.args.row in
    let a = c.args.a in
    let is = c.requires.is in
    let live = under_way_of s P old r n row ByAnswer is in
    let calm = out_parts row.command.0 P live.1 in
    let owned = settles s P old r n row ByAnswer is in
    let same : c.row-device.result ≡ owned.command = same_Some c.row-device.result owned.command (sym c.row-device.ensures ∙ owned.at) in
    let of = subst (λ (x : CommandRow). IsOf s old.devices row.command x.device) (sym same) owned.device in
    let answered = answer_known s P old.attempts r.attempts n.0 a (ap (answer_in old.attempts.kept.items) is.at ∙ c.requires.answer) in
    let J = entry.Judged row.command n Fail ∷ P in
    let last = entry.Failed row.command n false in
    let devices = c.judged.ensures.keeps s P row.command n Fail r.devices of answered in
    let moves = c.settle.ensures.rows in
    let few = subst (λ (k : ℕ). k < 2 ^ 60) (sym (rows_length n.0 at_end rows c.settle.new.self.rows.items moves)) r.few in
    let attempts = c.settle.ensures.tells s P (entry.Judged row.command n Fail) refl r.attempts in
    let failures = agrees_apart s P old.failures (entry.Judged row.command n Fail) tt r.failures in
    let deadlines = (timed_apart s J old.deadlines old.attempts.tags.items (timed_apart s P old.deadlines old.attempts.tags.items r.timed (entry.Judged row.command n Fail) tt) last tt).agrees in
    let kept = kept_moved n.0 at_end rows c.settle.new.self.rows.items moves (refl, refl, refl, λ has. has) in
    let placed = placed_moved n.0 at_end rows c.settle.new.self.rows.items old.commands.rows.items moves (refl, refl, refl, λ has. has) r.placed in
    let commands = follows_apart s J old.commands last tt (follows_apart s P old.commands (entry.Judged row.command n Fail) tt r.commands) in
    record {
      limits = r.limits;
      attempts =
          tells_again s J c.settle.new.self n.0 last refl
          (ap settled_in (row_here n.0 at_end rows c.settle.new.self.rows.items moves)) attempts;
      commands = commands;
      devices = keeps_apart s J c.judged.new.self last tt devices;
      timed = settled_timed s P old r n row ByAnswer is (last ∷ J) c.settle.new.self.tags.items c.settle.ensures.tags deadlines;
      time = r.time;
      early = r.early;
      few = few;
      failures = c.fail.ensures.tells s J failures owned.known live.1;
      verdicts = c.fail-2.ensures.tells s J (judged_first s P old r n row ByAnswer Fail is) (fails_judged s P old r n row ByAnswer a is answered);
      under_way =
          settled_under_way s P (last ∷ J) old r n row ByAnswer is c.settle.new.self.rows.items moves
          (λ k isnt. (refl, out_alike k P (last ∷ J) refl (ap (λ (b : Bool). cond b true (failed_since_sent k P)) isnt) refl));
      placed = placed;
      aborting =
          subst (λ (xs : List Abort). AreAborting (last ∷ J) c.settle.new.self.rows.items xs) (sym (ap (λ (q : _). q.waiting) c.fail.ensures.rest))
          (aborting_alike P (last ∷ J) rows c.settle.new.self.rows.items kept (λ k. refl) old.failures.work.waiting r.aborting);
      held_back = r.held_back;
      tagged = r.tagged;
    }

pub returns-clause-shown : goal.returns-clause-shown
returns-clause-shown c =
    let asked = c.requires in
    tag_freed asked.spec asked.entries c.args.self.now asked.runs c.args.n c.args.row ByAnswer asked.is c.settle.new.self.tags.items c.settle.ensures.tags
