use Rattle.std.proofs.Common.{◌≡◌, ◌∙◌, true, sym, ap, subst, refl, ℕ, ◌+◌, ◌<◌, ◌^◌, List, ◌∷◌, length, Option, Some}
use Rattle.std.specs.Prelude.{slice_get, slice_set}
use Rattle.mid_base.specs.declared.answers.TagState.{TagState}
use Rattle.mid_base.specs.declared.answers.TagState.TheVariants as tag
use Rattle.mid_base.specs.declared.entries.Entry.TheVariants as entry
use Rattle.trace_model.specs.Names.{command}
use Rattle.std.proofs.lemmas.Option.{same_Some, slice_get_within}
use Rattle.mid_base.specs.declared.names.Attempt.{Attempt}
use Rattle.mid_base.specs.declared.names.CmdId.{CmdId}
use Rattle.mid_base.specs.Past.{ticks}
use Rattle.trace_model.specs.declared.standing.Standing.TheVariants.{Waits, Busy}
use Rattle.trace_model.specs.Commands.{standing, is_busy}
use Rattle.attempt_table.specs.declared.rows.Row.{Row}
use Rattle.attempt_table.specs.Rows.{row_of, tag_in, turned_away, just_sent_in, live_in, shown_in, next_attempt}
use Rattle.attempt_table.proofs.Places.{row_new, row_last, rows_length}
use Rattle.attempt_table.specs.AttemptsAgree.{AttemptsAgree}
use Rattle.command_table.specs.declared.rows.CommandRow.{CommandRow}
use Rattle.command_table.proofs.Entries.{id_is, follows_bounced}
use Rattle.device_table.specs.declared.rows.DeviceRow.{DeviceRow}
use Rattle.device_table.specs.DevicesAgree.{IsOf}
use Rattle.verdict_table.proofs.Agree.{verdicts_apart, verdicts_sent}
use Rattle.host_state.proofs.Ties.{command_stands, of_device, holds_alone, unheld}
use Rattle.deadline_table.proofs.Changes.{unsent_is_idle}
use Rattle.attempt_table.proofs.Told.{live_tag_is_shown}
use Rattle.host_state.specs.HostAgrees.{AreAborting, IsTimed}
use Rattle.host_state.proofs.Timed.{never_sent, room_for, timed_sent, timed_stopped}
use Rattle.host_state.proofs.Going.{goes_online, room_online, free_is, one_more, bounced_under_way, bounced_aborting, held_once, is_sent, set_back}
use Rattle.failure_table.specs.FailuresAgree.{Abort, FailuresAgree, knows, is_out}
use Rattle.failure_table.proofs.Entries.{sent_is_out}
use Rattle.host_state.proofs.Failing.{id_known, room_to_send, one_can_end}
use Rattle.host_state.proofs.Kept.{kept_pushed, kept_moved, kept_then, placed_moved, placed_pushed}
use Rattle.host_state.proofs.running.Running.send_in_vain.Goals as goal

pub take_tag-tag-requires : goal.take_tag-tag-requires
take_tag-tag-requires c = goes_online c.args.self.now c.args.place c.requires.can c.row-row.result c.row-row.ensures

pub send-attempt-requires-clause-free : goal.send-attempt-requires-clause-free
send-attempt-requires-clause-free c =
    let can = c.requires.can in
    let least = c.take_tag-tag.ensures.least can.spec can.entries can.runs.devices in
    free_is can.spec can.entries c.args.self.now c.take_tag-tag.result.0 can.runs least.0 least.1

pub send-requires-clause-absent : goal.send-requires-clause-absent
send-requires-clause-absent c =
    let can = c.requires.can in
    unsent_is_idle can.spec can.entries c.args.self.now.deadlines.timers.timers can.runs.timed.agrees c.send-attempt.result.0
    (never_sent can.spec can.entries c.args.self.now can.runs c.send-attempt.result (ap (λ (x : Attempt). x.0) c.send-attempt.ensures.number))

pub send-requires-clause-room : goal.send-requires-clause-room
send-requires-clause-room c =
    let can = c.requires.can in
    let least = c.take_tag-tag.ensures.least can.spec can.entries can.runs.devices in
    room_for can.spec can.entries c.args.self.now.deadlines c.args.self.now.attempts.tags.items can.runs.timed c.take_tag-tag.result.0 can.runs.attempts.0.tags
    (free_is can.spec can.entries c.args.self.now c.take_tag-tag.result.0 can.runs least.0 least.1)

-- the row of the attempt that was sent
pub bounce-requires : goal.bounce-requires
bounce-requires c =
    let n = c.send-attempt.result.0 in
    ap just_sent_in (ap (row_of n) c.send-attempt.ensures.rows ∙ row_last c.args.self.now.attempts.rows.items _ n (ap (λ (x : Attempt). x.0) c.send-attempt.ensures.number))

pub bounce-requires-4-clause-place : goal.bounce-requires-4-clause-place
bounce-requires-4-clause-place c =
    let there = goes_online c.args.self.now c.args.place c.requires.can c.row-row.result c.row-row.ensures in
    subst (λ (xs : List DeviceRow). c.row-row.result.device < length xs) (sym c.take_tag-tag.ensures.rows)
    (slice_get_within c.args.self.now.devices.rows.items c.row-row.result.device there.0 there.1)

pub send-requires-2 : goal.send-requires-2
send-requires-2 c =
    let can = c.requires.can in
    room_to_send can.spec can.entries c.args.self.now.failures can.runs.failures (room_online c.args.self.now c.args.place can c.row-row.result c.row-row.ensures)

pub bounce-requires-3 : goal.bounce-requires-3
bounce-requires-3 c =
    let can = c.requires.can in
    λ unlisted. one_can_end can.spec can.entries c.args.self.now.failures can.runs.failures _ _ (ap length c.send-2.ensures.failed.0) c.send-2.ensures.busy

pub returns-clause-runs : goal.returns-clause-runs
returns-clause-runs c s P id is timeout r =
    let old = c.args.self.now in
    let rows = old.attempts.rows.items in
    let row = c.row-row.result in
    let at = c.row-row.ensures in
    let picked = c.requires.can.picked in
    let t = c.take_tag-tag.result in
    let n : Attempt = c.send-attempt.result in
    let number : n ≡ next_attempt rows = c.send-attempt.ensures.number in
    let id_of : row.id ≡ id = id_is c.args.place old.commands.rows.items row id at is in
    let waits : row.standing ≡ Waits = ap (λ (x : CommandRow). x.standing) (same_Some row picked.row (sym at ∙ picked.row_at)) ∙ picked.waits in
    let waiting : standing id.0 P ≡ Waits = command_stands s P old.commands r.commands c.args.place row at id is ∙ waits in
    let least = c.take_tag-tag.ensures.least s P r.devices in
    let known = id_known s P old.commands r.commands c.args.place id is in
    let of = subst (λ (x : CmdId). IsOf s old.devices x row.device) id_of (of_device s P old.commands old.devices r.commands r.devices c.args.place row at) in
    let told = c.send-attempt.ensures.tells s P r.attempts in
    let one : n.0 ≡ length rows + 1 = ap (λ (x : Attempt). x.0) number in
    let sent = subst (λ (x : CmdId). AttemptsAgree s (entry.Sent x n t ∷ P) c.send-attempt.new.self) id_of told in
    let Q = entry.Sent id n t ∷ P in
    let last = ap (row_of n.0) c.send-attempt.ensures.rows ∙ row_last rows _ n.0 one in
    let timed_one =
    timed_sent s P old.deadlines old.attempts.tags.items r.timed old.attempts r.attempts refl Q c.send.new.self n t (old.ticks + c.args.timeout) (row_new rows n.0 one)
    (free_is s P old t.0 r least.0 least.1) c.send.ensures.timers c.send.ensures.count c.send.ensures.most
    (c.send.ensures.tells s P id t r.timed.agrees r.time (never_sent s P old r n one) (sym timeout))
    in
    let timed_now = subst (λ (xs : List TagState). IsTimed s Q c.send.new.self xs) (sym c.send-attempt.ensures.tags) timed_one in
    let shows = live_tag_is_shown s Q c.send-attempt.new.self sent n.0 (ap live_in last) ∙ ap (λ (o : Option Row). Some (shown_in n.0 o)) last in
    let busy : standing id.0 (entry.Sent id n t ∷ P) ≡ Busy n t = is_sent s P old r id n t one waiting least.0 least.1 in
    let held = held_once s P old r id n t one waiting least.0 least.1 in
    let going = sent_is_out s P old.failures.queue.failed old.failures.queue.busy old.failures.work.waiting r.failures.says id (ap is_busy waiting) n t in
    let of_now : IsOf s c.take_tag-tag.new.self id row.device = record {
      command = of.command;
      place = of.place;
      at = of.at;
      id = of.id;
      row = of.row;
      row_at = ap (λ (xs : List DeviceRow). slice_get xs row.device) c.take_tag-tag.ensures.rows ∙ of.row_at;
      dev = of.dev;
    } in (
      least.0,
      record {
        limits = r.limits;
        attempts = c.bounce.ensures.tells s (entry.Sent id n t ∷ P) id c.args.why sent;
        commands = follows_bounced s P old.commands id n n t c.args.why waiting r.commands;
        devices =
            c.bounce-4.ensures.keeps s (entry.Sent id n t ∷ P) id n (c.take_tag-tag.ensures.keeps s P id n r.devices of (ap is_busy waiting)) of_now busy
            (holds_alone s (entry.Sent id n t ∷ P) id n t held busy) least.1;
        timed =
            rw c.bounce.ensures.tags
            (timed_stopped s Q c.send.new.self c.send-attempt.new.self.tags.items timed_now c.send-attempt.new.self sent refl (entry.Bounced id n c.args.why ∷ Q) c.bounce-2.new.self n tag.Free shows
            (λ timers. refl) c.bounce-2.ensures.timers (c.bounce-2.ensures.tells s Q id c.args.why timed_now.agrees));
        time = r.time;
        early = r.early;
        few =
            subst (λ (k : ℕ). k < 2 ^ 60)
            (sym (rows_length n.0 turned_away c.send-attempt.new.self.rows.items c.bounce.new.self.rows.items c.bounce.ensures.rows ∙ one_more rows c.send-attempt.new.self.rows.items _ c.send-attempt.ensures.rows))
            c.requires.can.few;
        failures =
            subst (λ (x : CmdId). FailuresAgree s (entry.Bounced x n c.args.why ∷ Q) c.bounce-3.new.self) id_of
            (c.bounce-3.ensures.tells s Q n c.args.why (c.send-2.ensures.tells s P id n t r.failures known (ap is_busy waiting) (never_sent s P old r n one))
            (subst (λ (x : CmdId). knows s x.0 ≡ true) (sym id_of) known) (subst (λ (x : CmdId). is_out x.0 Q ≡ true) (sym id_of) going));
        verdicts = verdicts_apart s Q old.verdicts (entry.Bounced id n c.args.why) tt (verdicts_sent s P old.verdicts id n t (never_sent s P old r n one) r.verdicts);
        placed =
            placed_moved n.0 turned_away c.send-attempt.new.self.rows.items c.bounce.new.self.rows.items old.commands.rows.items c.bounce.ensures.rows (refl, refl, refl, λ has. has)
            (placed_pushed rows _ c.send-attempt.new.self.rows.items old.commands.rows.items c.send-attempt.ensures.rows (is ∙ ap Some (sym id_of)) r.placed);
        aborting =
            subst (λ (xs : List Abort). AreAborting (entry.Bounced id n c.args.why ∷ Q) c.bounce.new.self.rows.items xs)
            (sym (ap (λ (q : _). q.waiting) (c.bounce-3.ensures.rest.0 ∙ c.send-2.ensures.rest.0)))
            (bounced_aborting s P old r id n t one waiting least.0 least.1 c.args.why c.bounce.new.self.rows.items
            (kept_then rows c.send-attempt.new.self.rows.items c.bounce.new.self.rows.items (kept_pushed rows _ c.send-attempt.new.self.rows.items c.send-attempt.ensures.rows)
            (kept_moved n.0 turned_away c.send-attempt.new.self.rows.items c.bounce.new.self.rows.items c.bounce.ensures.rows (refl, refl, refl, λ has. has))));
        tagged = (least.1, r.tagged);
        under_way =
            bounced_under_way s P old r id n t one waiting least.0 least.1 _ c.send-attempt.new.self.rows.items c.bounce.new.self.rows.items c.args.why c.send-attempt.ensures.rows refl c.bounce.ensures.rows;
        held_back = unheld s (entry.Sent id n t ∷ P) (entry.Bounced id n c.args.why ∷ entry.Sent id n t ∷ P) id.0 Waits refl (λ d. refl) (λ u. refl) (λ m. refl) held;
      },
    )

pub returns-clause-shown : goal.returns-clause-shown
returns-clause-shown c =
    let old = c.args.self.now.attempts in
    let can = c.requires.can in
    let t = c.take_tag-tag.result in
    let least = c.take_tag-tag.ensures.least can.spec can.entries can.runs.devices in
    let n = c.send-attempt.result in
    let last = ap (row_of n.0) c.send-attempt.ensures.rows ∙ row_last old.rows.items _ n.0 (ap (λ (x : Attempt). x.0) c.send-attempt.ensures.number) in
    c.bounce.ensures.tags
    ∙ ap (λ (o : Option Row). slice_set c.send-attempt.new.self.tags.items (tag_in o).0 tag.Free) last
    ∙ ap (λ (xs : List TagState). slice_set xs t.0 tag.Free) c.send-attempt.ensures.tags
    ∙ set_back old.tags.items t.0 (tag.Armed n) tag.Free
    (free_is can.spec can.entries c.args.self.now t.0 can.runs least.0 least.1)
