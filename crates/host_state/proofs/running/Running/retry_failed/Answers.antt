use Rattle.std.proofs.Common.{◌≡◌, ◌∙◌, sym, ap, subst, refl, ℕ, ◌<◌, Bool, true, false, cond, List, ◌∷◌, length, Option, Some}
use Rattle.std.specs.Prelude.{option_map, slice_get}
use Rattle.std.proofs.lemmas.Option.{same_Some, slice_get_within}
use Rattle.mid_base.specs.declared.entries.Entry.TheVariants.{Again, Told}
use Rattle.trace_model.specs.declared.standing.Standing.{Standing}
use Rattle.trace_model.specs.declared.standing.Standing.TheVariants.{Waits, Ended}
use Rattle.trace_model.specs.Commands.{standing, is_busy}
use Rattle.attempt_table.proofs.Told.{tells_apart}
use Rattle.command_table.specs.declared.rows.CommandRow.{CommandRow}
use Rattle.command_table.specs.Rows.{is_open}
use Rattle.device_table.specs.DevicesAgree.{IsOf}
use Rattle.failure_table.specs.FailuresAgree.{Abort, is_aborting}
use Rattle.host_state.specs.HostAgrees.{AreAborting}
use Rattle.host_state.proofs.Kept.{kept_same, placed_at, aborting_apart}
use Rattle.host_state.proofs.Begun.{failed_can_end, failed_unaborted, failed_under_way}
use Rattle.host_state.proofs.Settled.{holds_of, unscheduled}
use Rattle.host_state.proofs.Ties.{same_ids, out_alike, unheld}
use Rattle.host_state.proofs.Timed.{timed_apart}
use Rattle.host_state.proofs.running.Running.retry_failed.Goals as goal

pub row-device-requires : goal.row-device-requires
row-device-requires c =
    let asked = c.requires.failed in
    let old = c.args.self.now in
    let holds = holds_of asked.spec asked.entries old asked.runs c.args.n c.args.row asked.at asked.failed.0 in
    slice_get_within old.commands.rows.items c.args.row.place holds.command holds.at

pub again-requires-clause-busy : goal.again-requires-clause-busy
again-requires-clause-busy c =
    let asked = c.requires.failed in
    let old = c.args.self.now in
    let holds = holds_of asked.spec asked.entries old asked.runs c.args.n c.args.row asked.at asked.failed.0 in
    ap (λ (o : Option CommandRow). option_map (λ (x : CommandRow). is_busy x.standing) o) holds.at ∙ ap (λ (x : Standing). Some (is_busy x)) holds.stands

pub again-requires-2-clause-place : goal.again-requires-2-clause-place
again-requires-2-clause-place c =
    let asked = c.requires.failed in
    let old = c.args.self.now in
    let holds = holds_of asked.spec asked.entries old asked.runs c.args.n c.args.row asked.at asked.failed.0 in
    let same : c.row-device.result ≡ holds.command = same_Some c.row-device.result holds.command (sym c.row-device.ensures ∙ holds.at) in
    subst (λ (x : CommandRow). x.device < length old.devices.rows.items) (sym same)
    (slice_get_within old.devices.rows.items holds.command.device holds.device.row holds.device.row_at)

pub again-requires-2-clause-out : goal.again-requires-2-clause-out
again-requires-2-clause-out c =
    let asked = c.requires.failed in
    let old = c.args.self.now in
    let holds = holds_of asked.spec asked.entries old asked.runs c.args.n c.args.row asked.at asked.failed.0 in
    holds.out

pub again-requires-3 : goal.again-requires-3
again-requires-3 c =
    let asked = c.requires.failed in
    failed_can_end asked.spec asked.entries c.args.self.now.failures asked.runs.failures c.args.row.command asked.failed.1

pub returns-clause-runs : goal.returns-clause-runs
returns-clause-runs c s P with r =
    let old = c.args.self.now in
    let rows = old.attempts.rows.items in
    let n = c.args.n in
    let row = c.args.row in
    let holds = holds_of s P old r n row c.requires.failed.at with.0 in
    let last = Again row.command true in
    let same : c.row-device.result ≡ holds.command = same_Some c.row-device.result holds.command (sym c.row-device.ensures ∙ holds.at) in
    let of = subst (λ (x : CommandRow). IsOf s old.devices row.command x.device) (sym same) holds.device in
    let commands = c.again.ensures.follows s P row.command holds.id r.commands in
    let ids = same_ids s P (last ∷ P) old.commands c.again.new.self r.commands commands in
    let unaborted = failed_unaborted s P old.failures r.failures row.command.0 with.1 in
    record {
      limits = r.limits;
      attempts = tells_apart s P old.attempts last tt r.attempts;
      commands = commands;
      devices = c.again-2.ensures.keeps s P row.command n r.devices of holds.busy holds.alone holds.below;
      timed = timed_apart s P old.deadlines old.attempts.tags.items r.timed last tt;
      time = r.time;
      early = r.early;
      few = r.few;
      failures = c.again-3.ensures.tells s P true r.failures holds.known (ap is_busy holds.busy) unaborted;
      verdicts = c.leave.ensures.again s P true r.verdicts;
      under_way =
          failed_under_way P (last ∷ P) rows row.command with.1
          (λ k isnt.
          let stands : standing k (last ∷ P) ≡ standing k P = ap (λ (b : Bool). cond b Waits (standing k P)) isnt in
          (stands, out_alike k P (last ∷ P) stands refl refl))
          r.under_way;
      placed = placed_at rows old.commands.rows.items c.again.new.self.rows.items ids r.placed;
      aborting =
          subst (λ (xs : List Abort). AreAborting (last ∷ P) rows xs) (sym (ap (λ (q : _). q.waiting) c.again-3.ensures.rest.0))
          (aborting_apart P (last ∷ P) rows rows (kept_same rows rows refl) row.command.0 Waits (λ k. refl) old.failures.work.waiting
          (unscheduled s P old r row.command.0 unaborted) r.aborting);
      held_back = unheld s P (last ∷ P) row.command.0 Waits refl (λ k. refl) (λ u. refl) (λ m. refl) r.held_back;
      tagged = r.tagged;
    }
