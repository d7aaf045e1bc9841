use Rattle.std.proofs.Common.{◌≡◌, ◌∙◌, sym, ap, subst, refl, ℕ, ◌<◌, Bool, true, false, cond, List, ◌∷◌, length, Option, Some}
use Rattle.std.specs.Prelude.{option_map, slice_get}
use Rattle.std.proofs.lemmas.Option.{same_Some, slice_get_within}
use Rattle.mid_base.specs.declared.entries.Entry.TheVariants as entry
use Rattle.tag_pool.specs.Tags.{is_out}
use Rattle.trace_model.specs.declared.standing.Standing.{Standing}
use Rattle.trace_model.specs.declared.standing.Standing.TheVariants.{Waits, Ended}
use Rattle.trace_model.specs.Commands.{standing, is_busy, failed_since_sent}
use Rattle.attempt_table.specs.Rows.{settled_in}
use Rattle.attempt_table.proofs.Told.{tells_apart, tells_again}
use Rattle.command_table.specs.declared.rows.CommandRow.{CommandRow}
use Rattle.command_table.specs.Rows.{is_open}
use Rattle.command_table.proofs.Entries.{follows_apart}
use Rattle.device_table.specs.DevicesAgree.{IsOf}
use Rattle.device_table.proofs.Entries.{keeps_apart}
use Rattle.failure_table.specs.FailuresAgree.{Abort, CanFail, is_aborting}
use Rattle.failure_table.proofs.Entries.{out_parts, taken_first}
use Rattle.host_state.specs.HostAgrees.{AreAborting}
use Rattle.verdict_table.proofs.Agree.{verdicts_apart}
use Rattle.host_state.proofs.Failed.{fails_aborted, verdict_room}
use Rattle.eh_queue.specs.declared.queue.EhQueue.{EhQueue}
use Rattle.host_state.proofs.Aborts.{first_busy, tried_of, aborted_under_way}
use Rattle.host_state.proofs.Failing.{room_to_fail}
use Rattle.host_state.proofs.Kept.{kept_same, placed_at, aborting_apart, aborting_alike}
use Rattle.host_state.proofs.Ties.{same_ids, out_alike, unheld}
use Rattle.host_state.proofs.Timed.{timed_apart}
use Rattle.host_state.proofs.running.Running.fail_aborted.Goals as goal

pub fail-requires : goal.fail-requires
fail-requires c =
    let old = c.args.self.now in
    let asked = c.requires in
    let rest = c.take_abort.new.self.work.waiting in
    let is = taken_first old.failures.work.waiting rest c.take_abort.result (c.args.row.command, c.args.n) c.take_abort.ensures.waiting asked.first in
    let tried = tried_of asked.spec asked.entries old asked.runs c.args.n c.args.row false rest is asked.at in
    let T = entry.Aborted c.args.row.command c.args.n false ∷ asked.entries in
    let failures = c.take_abort.ensures.tells asked.spec asked.entries c.args.row.command c.args.n false asked.runs.failures asked.first in
    room_to_fail asked.spec T c.take_abort.new.self failures c.args.row.command tried.holds.known tried.out

pub fail-requires-2 : goal.fail-requires-2
fail-requires-2 c =
    let old = c.args.self.now in
    let asked = c.requires in
    let rest = c.take_abort.new.self.work.waiting in
    let is = taken_first old.failures.work.waiting rest c.take_abort.result (c.args.row.command, c.args.n) c.take_abort.ensures.waiting asked.first in
    let tried = tried_of asked.spec asked.entries old asked.runs c.args.n c.args.row false rest is asked.at in
    let T = entry.Aborted c.args.row.command c.args.n false ∷ asked.entries in
    let failures = c.take_abort.ensures.tells asked.spec asked.entries c.args.row.command c.args.n false asked.runs.failures asked.first in
    let can = room_to_fail asked.spec T c.take_abort.new.self failures c.args.row.command tried.holds.known tried.out in
    verdict_room asked.spec asked.entries old asked.runs c.args.row.command
    (subst (λ (q : EhQueue). CanFail c.args.row.command (record old.failures { queue = q })) c.take_abort.ensures.rest.0 can)

pub returns-clause-runs : goal.returns-clause-runs
returns-clause-runs c s P r =
    let old = c.args.self.now in
    let rows = old.attempts.rows.items in
    let n = c.args.n in
    let row = c.args.row in
    let asked = c.requires in
    let rest = c.take_abort.new.self.work.waiting in
    let is = taken_first old.failures.work.waiting rest c.take_abort.result (row.command, n) c.take_abort.ensures.waiting asked.first in
    let tried = tried_of s P old r n row false rest is asked.at in
    let holds = tried.holds in
    let e = entry.Aborted row.command n false in
    let T = e ∷ P in
    let last = entry.Failed row.command n true in
    let failures = c.take_abort.ensures.tells s P row.command n false r.failures asked.first in
    let timed = timed_apart s T old.deadlines old.attempts.tags.items (timed_apart s P old.deadlines old.attempts.tags.items r.timed e tt) last tt in
    let commands = follows_apart s T old.commands last tt (follows_apart s P old.commands e tt r.commands) in
    record {
      limits = r.limits;
      attempts = tells_again s T old.attempts n.0 last refl (ap settled_in asked.at ∙ tried.settled) (tells_apart s P old.attempts e tt r.attempts);
      commands = commands;
      devices = keeps_apart s T old.devices last tt (keeps_apart s P old.devices e tt r.devices);
      timed = timed;
      time = r.time;
      early = r.early;
      few = r.few;
      failures = c.fail.ensures.tells s T failures holds.known tried.out;
      verdicts = c.fail-2.ensures.tells s T (verdicts_apart s P old.verdicts e tt r.verdicts) (fails_aborted s P old r n row asked.at (first_busy s P old r n row asked.first asked.at).0);
      under_way =
          aborted_under_way P (last ∷ T) rows row.command tried.scheduled
          (λ k isnt. (
            refl,
            out_alike k P (last ∷ T) refl (ap (λ (b : Bool). cond b true (failed_since_sent k P)) isnt) (ap (λ (b : Bool). cond b false (is_aborting k P)) isnt),
          ))
          r.under_way;
      placed = r.placed;
      aborting =
          subst (λ (xs : List Abort). AreAborting (last ∷ T) rows xs) (sym (ap (λ (q : _). q.waiting) c.fail.ensures.rest))
          (aborting_alike P (last ∷ T) rows rows (kept_same rows rows refl) (λ k. refl) rest tried.others);
      held_back = r.held_back;
      tagged = r.tagged;
    }
