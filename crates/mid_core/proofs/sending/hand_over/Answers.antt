use Rattle.std.proofs.Common.{◌∙◌, ◌+◌, refl, sym, ap, subst, ℕ, List, ◌∷◌, Option}
use Rattle.mid_base.specs.declared.answers.BusyOf.{BusyOf}
use Rattle.mid_base.specs.declared.entries.Entry.{Entry}
use Rattle.mid_base.specs.declared.entries.Entry.TheVariants.{Sent, Bounced}
use Rattle.mid_base.specs.declared.host_spec.CmdSpec.{CmdSpec}
use Rattle.mid_base.specs.declared.names.Attempt.{Attempt}
use Rattle.host_state.specs.HostAgrees.{HostAgrees}
use Rattle.mid_core.specs.Choices.{bounced}
use Rattle.mid_core.proofs.Holding.{handed_honest}
use Rattle.mid_core.proofs.Known.{spec_within}
use Rattle.mid_core.proofs.Offered.{can_send, still_picked, read_there, read_id, command_of, number_is, fits, queued_is}
use Rattle.mid_core.proofs.sending.hand_over.Goals as goal

pub send-sending-requires-clause-can : goal.send-sending-requires-clause-can
send-sending-requires-clause-can g c =
    let P = c.requires.0 in
    can_send c.args.spec.now P c.args.running.now c.reserve.new.self c.args.place (c.in_ok-reserve.ensures.same c.args.spec.now P c.requires.1)
    c.in_ok-reserve.ensures.commands c.in_ok-reserve.ensures.devices c.in_ok-reserve.ensures.attempts c.requires.2

pub send_in_vain-sending-requires-clause-can : goal.send_in_vain-sending-requires-clause-can
send_in_vain-sending-requires-clause-can g c =
    let P = c.requires.0 in
    can_send c.args.spec.now P c.args.running.now c.reserve.new.self c.args.place (c.in_ok-reserve.ensures.same c.args.spec.now P c.requires.1)
    c.in_ok-reserve.ensures.commands c.in_ok-reserve.ensures.devices c.in_ok-reserve.ensures.attempts c.requires.2

pub returns-in-None-clause-runs : goal.returns-in-None-clause-runs
returns-in-None-clause-runs g c = λ P runs may.
    let s = c.args.spec.now in
    let r = c.reserve.new.self in
    let k = c.index-as_slice-place.result in
    let roomy = c.in_ok-reserve.ensures.same s P runs in
    let picked = may.turn.picked in
    let read = read_there c.as_slice.result.now s.cmds c.args.place k c.as_slice.ensures (spec_within s P c.args.running.now runs c.args.place picked.row picked.row_at) c.index-as_slice-place.is in
    let still = still_picked s P c.args.running.now r c.args.place c.in_ok-reserve.ensures.commands c.in_ok-reserve.ensures.devices picked in
    let sent = c.send-sending.ensures.runs s P k.id (read_id s P r c.args.place still k read) (ap (λ (j : CmdSpec). j.timeout) (sym (command_of s P r roomy c.args.place k read))) roomy in
    let number = number_is c.count.result r.attempts.rows.items c.send-sending.result.attempt c.count.ensures c.send-sending.ensures.attempt in
    record {
      command = k;
      at = read;
      id = refl;
      number = ap (λ (m : ℕ). m + 1) (c.count.ensures ∙ sym roomy.attempts.0.sends_are);
      least = sent.0;
      runs = subst (λ (n : Attempt). HostAgrees s (Sent k.id n c.send-sending.result.tag ∷ P) c.send-sending.new.self) number sent.1;
    }

pub returns-in-None-clause-stands : goal.returns-in-None-clause-stands
returns-in-None-clause-stands g c = λ P b runs may stood.
    let s = c.args.spec.now in
    let r = c.reserve.new.self in
    let k = c.index-as_slice-place.result in
    let n : Attempt = record { 0 = c.count.result + 1 } in
    let t = c.send-sending.result.tag in
    let roomy = c.in_ok-reserve.ensures.same s P runs in
    let picked = may.turn.picked in
    let read = read_there c.as_slice.result.now s.cmds c.args.place k c.as_slice.ensures (spec_within s P c.args.running.now runs c.args.place picked.row picked.row_at) c.index-as_slice-place.is in
    let told = c.in_ok-answer.ensures.ok s b P k.id k t
    (fits s P r roomy c.args.place k read n.0 c.now.result.0 (ap (λ (m : ℕ). m + 1) c.count.ensures) c.now.ensures)
    (c.in_ok-reserve-2.ensures.stands s b P stood)
    in
    subst (λ (X : List Entry). g.A.HostTemplate.stands c.queue.new.self s b X)
    (queued_is c.in_ok-answer.answer k.id n t P ∙ ap (λ (o : Option BusyOf). bounced k.id n o (Sent k.id n t ∷ P)) (sym c.busy_of.ensures ∙ c.in-None.is))
    told

pub returns-in-Some-clause-runs : goal.returns-in-Some-clause-runs
returns-in-Some-clause-runs g c = λ P runs may.
    let s = c.args.spec.now in
    let r = c.reserve.new.self in
    let k = c.index-as_slice-place.result in
    let roomy = c.in_ok-reserve.ensures.same s P runs in
    let picked = may.turn.picked in
    let read = read_there c.as_slice.result.now s.cmds c.args.place k c.as_slice.ensures (spec_within s P c.args.running.now runs c.args.place picked.row picked.row_at) c.index-as_slice-place.is in
    let still = still_picked s P c.args.running.now r c.args.place c.in_ok-reserve.ensures.commands c.in_ok-reserve.ensures.devices picked in
    let sent = c.send_in_vain-sending.ensures.runs s P k.id (read_id s P r c.args.place still k read) (ap (λ (j : CmdSpec). j.timeout) (sym (command_of s P r roomy c.args.place k read))) roomy in
    let number = number_is c.count.result r.attempts.rows.items c.send_in_vain-sending.result.attempt c.count.ensures c.send_in_vain-sending.ensures.attempt in
    record {
      command = k;
      at = read;
      id = refl;
      number = ap (λ (m : ℕ). m + 1) (c.count.ensures ∙ sym roomy.attempts.0.sends_are);
      least = sent.0;
      runs = subst (λ (n : Attempt). HostAgrees s (Bounced k.id n c.in-Some.why ∷ Sent k.id n c.send_in_vain-sending.result.tag ∷ P) c.send_in_vain-sending.new.self) number sent.1;
    }

pub returns-in-Some-clause-stands : goal.returns-in-Some-clause-stands
returns-in-Some-clause-stands g c = λ P b runs may stood.
    let s = c.args.spec.now in
    let r = c.reserve.new.self in
    let k = c.index-as_slice-place.result in
    let n : Attempt = record { 0 = c.count.result + 1 } in
    let t = c.send_in_vain-sending.result.tag in
    let roomy = c.in_ok-reserve.ensures.same s P runs in
    let picked = may.turn.picked in
    let read = read_there c.as_slice.result.now s.cmds c.args.place k c.as_slice.ensures (spec_within s P c.args.running.now runs c.args.place picked.row picked.row_at) c.index-as_slice-place.is in
    let told = c.in_ok-answer.ensures.ok s b P k.id k t
    (fits s P r roomy c.args.place k read n.0 c.now.result.0 (ap (λ (m : ℕ). m + 1) c.count.ensures) c.now.ensures)
    (c.in_ok-reserve-2.ensures.stands s b P stood)
    in
    subst (λ (X : List Entry). g.A.HostTemplate.stands c.queue.new.self s b X)
    (queued_is c.in_ok-answer.answer k.id n t P ∙ ap (λ (o : Option BusyOf). bounced k.id n o (Sent k.id n t ∷ P)) (sym c.busy_of.ensures ∙ c.in-Some.is))
    told

pub returns-in-None-clause-honest : goal.returns-in-None-clause-honest
returns-in-None-clause-honest g c = λ P runs may.
    let s = c.args.spec.now in
    let r = c.reserve.new.self in
    let k = c.index-as_slice-place.result in
    let n : Attempt = record { 0 = c.count.result + 1 } in
    let roomy = c.in_ok-reserve.ensures.same s P runs in
    let picked = may.turn.picked in
    let read = read_there c.as_slice.result.now s.cmds c.args.place k c.as_slice.ensures (spec_within s P c.args.running.now runs c.args.place picked.row picked.row_at) c.index-as_slice-place.is in
    handed_honest s P k.id n c.send-sending.result.tag k.dev c.in_ok-answer.answer _ _ _ _ (ap (λ (j : CmdSpec). j.dev) (sym (command_of s P r roomy c.args.place k read))) (sym c.busy_of.ensures ∙ c.in-None.is)
    c.in_ok-reserve-2.ensures.kept c.in_ok-answer.ensures.honest

pub returns-in-Some-clause-honest : goal.returns-in-Some-clause-honest
returns-in-Some-clause-honest g c = λ P runs may.
    let s = c.args.spec.now in
    let r = c.reserve.new.self in
    let k = c.index-as_slice-place.result in
    let n : Attempt = record { 0 = c.count.result + 1 } in
    let roomy = c.in_ok-reserve.ensures.same s P runs in
    let picked = may.turn.picked in
    let read = read_there c.as_slice.result.now s.cmds c.args.place k c.as_slice.ensures (spec_within s P c.args.running.now runs c.args.place picked.row picked.row_at) c.index-as_slice-place.is in
    handed_honest s P k.id n c.send_in_vain-sending.result.tag k.dev c.in_ok-answer.answer _ _ _ _ (ap (λ (j : CmdSpec). j.dev) (sym (command_of s P r roomy c.args.place k read))) (sym c.busy_of.ensures ∙ c.in-Some.is)
    c.in_ok-reserve-2.ensures.kept c.in_ok-answer.ensures.honest
