use Rattle.std.proofs.Common.{◌≡◌, ◌∙◌, sym, ap, subst, refl, ℕ, ◌+◌, ◌<◌, ◌^◌, List, ◌∷◌, length, Some}
use Rattle.std.specs.Prelude.{slice_set}
use Rattle.mid_base.specs.declared.answers.TagState.TheVariants as tag
use Rattle.mid_base.specs.declared.entries.Entry.TheVariants as entry
use Rattle.trace_model.specs.Names.{command}
use Rattle.std.proofs.lemmas.Option.{same_Some}
use Rattle.mid_base.specs.declared.names.Attempt.{Attempt}
use Rattle.mid_base.specs.declared.names.CmdId.{CmdId}
use Rattle.mid_base.specs.declared.entries.Entry.{Entry}
use Rattle.mid_base.specs.Past.{ticks}
use Rattle.trace_model.specs.declared.standing.Standing.TheVariants.{Waits}
use Rattle.trace_model.specs.Commands.{standing, is_busy}
use Rattle.attempt_table.specs.Rows.{next_attempt}
use Rattle.attempt_table.specs.AttemptsAgree.{AttemptsAgree}
use Rattle.command_table.specs.declared.rows.CommandRow.{CommandRow}
use Rattle.command_table.proofs.Entries.{id_is}
use Rattle.device_table.specs.DevicesAgree.{IsOf}
use Rattle.verdict_table.proofs.Agree.{verdicts_sent}
use Rattle.host_state.proofs.Ties.{command_stands, of_device, same_ids}
use Rattle.deadline_table.proofs.Changes.{unsent_is_idle}
use Rattle.attempt_table.proofs.Places.{row_new}
use Rattle.host_state.proofs.Timed.{never_sent, room_for, timed_sent}
use Rattle.host_state.proofs.Going.{goes_online, room_online, free_is, one_more, sent_under_way, sent_aborting, held_once}
use Rattle.host_state.proofs.Failing.{id_known, room_to_send}
use Rattle.failure_table.specs.FailuresAgree.{Abort}
use Rattle.host_state.specs.HostAgrees.{AreAborting}
use Rattle.host_state.proofs.Kept.{kept_pushed, placed_at, placed_pushed}
use Rattle.host_state.proofs.running.Running.send.Goals as goal

pub take_tag-tag-requires : goal.take_tag-tag-requires
take_tag-tag-requires c = goes_online c.args.self.now c.args.place c.requires.can c.row-row.result c.row-row.ensures

pub send-attempt-requires-clause-free : goal.send-attempt-requires-clause-free
send-attempt-requires-clause-free c =
    let can = c.requires.can in
    let least = c.take_tag-tag.ensures.least can.spec can.entries can.runs.devices in
    free_is can.spec can.entries c.args.self.now c.take_tag-tag.result.0 can.runs least.0 least.1

pub send-requires-clause-absent : goal.send-requires-clause-absent
send-requires-clause-absent c =
    let can = c.requires.can in
    unsent_is_idle can.spec can.entries c.args.self.now.deadlines.timers.timers can.runs.timed.agrees c.send-attempt.result.0
    (never_sent can.spec can.entries c.args.self.now can.runs c.send-attempt.result (ap (λ (x : Attempt). x.0) c.send-attempt.ensures.number))

pub send-requires-clause-room : goal.send-requires-clause-room
send-requires-clause-room c =
    let can = c.requires.can in
    let least = c.take_tag-tag.ensures.least can.spec can.entries can.runs.devices in
    room_for can.spec can.entries c.args.self.now.deadlines c.args.self.now.attempts.tags.items can.runs.timed c.take_tag-tag.result.0 can.runs.attempts.0.tags
    (free_is can.spec can.entries c.args.self.now c.take_tag-tag.result.0 can.runs least.0 least.1)

pub send-requires-2 : goal.send-requires-2
send-requires-2 c =
    let can = c.requires.can in
    room_to_send can.spec can.entries c.args.self.now.failures can.runs.failures (room_online c.args.self.now c.args.place can c.row-row.result c.row-row.ensures)

pub returns-clause-runs : goal.returns-clause-runs
returns-clause-runs c s P id is timeout r =
    let old = c.args.self.now in
    let rows = old.attempts.rows.items in
    let row = c.row-row.result in
    let at = c.row-row.ensures in
    let picked = c.requires.can.picked in
    let t = c.take_tag-tag.result in
    let n : Attempt = c.send-attempt.result in
    let number : n ≡ next_attempt rows = c.send-attempt.ensures.number in
    let one : n.0 ≡ length rows + 1 = ap (λ (x : Attempt). x.0) number in
    let id_of : row.id ≡ id = id_is c.args.place old.commands.rows.items row id at is in
    let waits : row.standing ≡ Waits = ap (λ (x : CommandRow). x.standing) (same_Some row picked.row (sym at ∙ picked.row_at)) ∙ picked.waits in
    let waiting : standing id.0 P ≡ Waits = command_stands s P old.commands r.commands c.args.place row at id is ∙ waits in
    let least = c.take_tag-tag.ensures.least s P r.devices in
    let known = id_known s P old.commands r.commands c.args.place id is in
    let of = subst (λ (x : CmdId). IsOf s old.devices x row.device) id_of (of_device s P old.commands old.devices r.commands r.devices c.args.place row at) in
    let told = c.send-attempt.ensures.tells s P r.attempts in
    let commands = c.send-3.ensures.follows s P id is r.commands in
    let sent : Entry = entry.Sent id n t in
    let ids = same_ids s P (sent ∷ P) old.commands c.send-3.new.self r.commands commands in (
      least.0,
      record {
        limits = r.limits;
        attempts = subst (λ (x : CmdId). AttemptsAgree s (entry.Sent x n t ∷ P) c.send-attempt.new.self) id_of told;
        commands = commands;
        devices = c.take_tag-tag.ensures.keeps s P id n r.devices of (ap is_busy waiting);
        timed =
            rw c.send-attempt.ensures.tags
            (timed_sent s P old.deadlines old.attempts.tags.items r.timed old.attempts r.attempts refl (sent ∷ P) c.send.new.self n t (old.ticks + c.args.timeout) (row_new rows n.0 one)
            (free_is s P old t.0 r least.0 least.1) c.send.ensures.timers c.send.ensures.count c.send.ensures.most
            (c.send.ensures.tells s P id t r.timed.agrees r.time (never_sent s P old r n one) (sym timeout)));
        time = r.time;
        early = r.early;
        few = subst (λ (k : ℕ). k < 2 ^ 60) (sym (one_more rows c.send-attempt.new.self.rows.items _ c.send-attempt.ensures.rows)) c.requires.can.few;
        failures = c.send-2.ensures.tells s P id n t r.failures known (ap is_busy waiting) (never_sent s P old r n one);
        verdicts = verdicts_sent s P old.verdicts id n t (never_sent s P old r n one) r.verdicts;
        placed =
            placed_pushed rows _ c.send-attempt.new.self.rows.items c.send-3.new.self.rows.items c.send-attempt.ensures.rows (ids c.args.place ∙ is ∙ ap Some (sym id_of))
            (placed_at rows old.commands.rows.items c.send-3.new.self.rows.items ids r.placed);
        aborting =
            subst (λ (xs : List Abort). AreAborting (sent ∷ P) c.send-attempt.new.self.rows.items xs) (sym (ap (λ (q : _). q.waiting) c.send-2.ensures.rest.0))
            (sent_aborting s P old r id n t one waiting least.0 least.1 c.send-attempt.new.self.rows.items (kept_pushed rows _ c.send-attempt.new.self.rows.items c.send-attempt.ensures.rows));
        tagged = (least.1, r.tagged);
        under_way = sent_under_way s P old r id n t one waiting least.0 least.1 _ c.send-attempt.new.self.rows.items c.send-attempt.ensures.rows id_of refl;
        held_back = held_once s P old r id n t one waiting least.0 least.1;
      },
    )

pub returns-clause-shown : goal.returns-clause-shown
returns-clause-shown c =
    let can = c.requires.can in
    let least = c.take_tag-tag.ensures.least can.spec can.entries can.runs.devices in (
      free_is can.spec can.entries c.args.self.now c.take_tag-tag.result.0 can.runs least.0 least.1,
      c.send-attempt.ensures.tags,
    )
