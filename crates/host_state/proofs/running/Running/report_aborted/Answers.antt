use Rattle.std.proofs.Common.{◌≡◌, ◌∙◌, sym, ap, subst, refl, ℕ, ◌<◌, Bool, true, false, cond, List, ◌∷◌, length, Option, Some}
use Rattle.std.specs.Prelude.{option_map, slice_get}
use Rattle.std.proofs.lemmas.Option.{same_Some, slice_get_within}
use Rattle.mid_base.specs.declared.entries.Entry.TheVariants as entry
use Rattle.tag_pool.specs.Tags.{is_out}
use Rattle.trace_model.specs.declared.standing.Standing.{Standing}
use Rattle.trace_model.specs.declared.standing.Standing.TheVariants.{Waits, Ended}
use Rattle.trace_model.specs.Commands.{standing, is_busy, failed_since_sent}
use Rattle.attempt_table.specs.Rows.{settled_in}
use Rattle.attempt_table.proofs.Told.{tells_apart, tells_again}
use Rattle.command_table.specs.declared.rows.CommandRow.{CommandRow}
use Rattle.command_table.specs.Rows.{is_open}
use Rattle.command_table.proofs.Entries.{follows_apart}
use Rattle.device_table.specs.DevicesAgree.{IsOf}
use Rattle.device_table.proofs.Entries.{keeps_apart}
use Rattle.failure_table.specs.FailuresAgree.{Abort, is_aborting}
use Rattle.failure_table.proofs.Entries.{out_parts, taken_first}
use Rattle.host_state.specs.HostAgrees.{AreAborting}
use Rattle.verdict_table.proofs.Agree.{verdicts_apart}
use Rattle.host_state.proofs.Aborts.{first_holds, tried_of, aborted_under_way}
use Rattle.host_state.proofs.Failing.{room_to_fail}
use Rattle.host_state.proofs.Kept.{kept_same, placed_at, aborting_apart, aborting_alike}
use Rattle.host_state.proofs.Ties.{same_ids, out_alike, unheld}
use Rattle.host_state.proofs.Timed.{timed_apart}
use Rattle.host_state.proofs.running.Running.report_aborted.Goals as goal

pub tell-requires-clause-open : goal.tell-requires-clause-open
tell-requires-clause-open c =
    let old = c.args.self.now in
    let asked = c.requires in
    let holds = first_holds asked.spec asked.entries old asked.runs c.args.n c.args.row asked.first asked.at in
    ap (λ (o : Option CommandRow). option_map (λ (x : CommandRow). is_open x.standing) o) holds.at ∙ ap (λ (x : Standing). Some (is_open x)) holds.stands

pub tell-requires-2 : goal.tell-requires-2
tell-requires-2 c =
    let old = c.args.self.now in
    let asked = c.requires in
    let holds = first_holds asked.spec asked.entries old asked.runs c.args.n c.args.row asked.first asked.at in
    record { out = holds.out }

pub tell-requires-3 : goal.tell-requires-3
tell-requires-3 c =
    let old = c.args.self.now in
    let asked = c.requires in
    let rest = c.take_abort.new.self.work.waiting in
    let is = taken_first old.failures.work.waiting rest c.take_abort.result (c.args.row.command, c.args.n) c.take_abort.ensures.waiting asked.first in
    let tried = tried_of asked.spec asked.entries old asked.runs c.args.n c.args.row true rest is asked.at in
    let T = entry.Aborted c.args.row.command c.args.n true ∷ asked.entries in
    let failures = c.take_abort.ensures.tells asked.spec asked.entries c.args.row.command c.args.n true asked.runs.failures asked.first in
    λ unlisted. (room_to_fail asked.spec T c.take_abort.new.self failures c.args.row.command tried.holds.known tried.out).1

pub returns-clause-runs : goal.returns-clause-runs
returns-clause-runs c s P x r =
    let old = c.args.self.now in
    let rows = old.attempts.rows.items in
    let n = c.args.n in
    let row = c.args.row in
    let asked = c.requires in
    let rest = c.take_abort.new.self.work.waiting in
    let is = taken_first old.failures.work.waiting rest c.take_abort.result (row.command, n) c.take_abort.ensures.waiting asked.first in
    let tried = tried_of s P old r n row true rest is asked.at in
    let holds = tried.holds in
    let e = entry.Aborted row.command n true in
    let T = e ∷ P in
    let last = entry.Told row.command x in
    let failures = c.take_abort.ensures.tells s P row.command n true r.failures asked.first in
    let timed = timed_apart s T old.deadlines old.attempts.tags.items (timed_apart s P old.deadlines old.attempts.tags.items r.timed e tt) last tt in
    let commands = c.tell.ensures.follows s T row.command x holds.id (follows_apart s P old.commands e tt r.commands) in
    let ids = same_ids s P (last ∷ T) old.commands c.tell.new.self r.commands commands in
    record {
      limits = r.limits;
      attempts = tells_apart s T old.attempts last tt (tells_apart s P old.attempts e tt r.attempts);
      commands = commands;
      devices = c.tell-2.ensures.keeps s T row.command holds.command.device n x (keeps_apart s P old.devices e tt r.devices) holds.device holds.busy holds.alone holds.below;
      timed = timed;
      time = r.time;
      early = r.early;
      few = r.few;
      failures = c.tell-3.ensures.tells s T x failures holds.known (ap is_busy holds.busy) (out_parts row.command.0 T tried.out).2;
      verdicts = c.leave.ensures.told s T x (verdicts_apart s P old.verdicts e tt r.verdicts);
      under_way =
          aborted_under_way P (last ∷ T) rows row.command tried.scheduled
          (λ k isnt.
          let stands : standing k (last ∷ T) ≡ standing k P = ap (λ (b : Bool). cond b Ended (standing k P)) isnt in
          (stands, out_alike k P (last ∷ T) stands refl (ap (λ (b : Bool). cond b false (is_aborting k P)) isnt)))
          r.under_way;
      placed = placed_at rows old.commands.rows.items c.tell.new.self.rows.items ids r.placed;
      aborting =
          subst (λ (xs : List Abort). AreAborting (last ∷ T) rows xs) (sym (ap (λ (q : _). q.waiting) c.tell-3.ensures.rest.0))
          (aborting_apart P (last ∷ T) rows rows (kept_same rows rows refl) row.command.0 Ended (λ k. refl) rest tried.alone tried.others);
      held_back = unheld s T (last ∷ T) row.command.0 Ended refl (λ k. refl) (λ u. refl) (λ m. refl) r.held_back;
      tagged = r.tagged;
    }
