use Rattle.std.proofs.Common.{◌≡◌, ◌∙◌, ◌<◌, ◌≤◌, ◌+◌, false, true, sym, ap, arith}
use Rattle.device_states.specs.States.{is_online_state}
use Rattle.mid_base.specs.declared.host_spec.CmdSpec.{CmdSpec}
use Rattle.trace_model.specs.Attempts.{sends}
use Rattle.trace_model.specs.Devices.{in_recovery, is_online}
use Rattle.trace_model.specs.Names.{dev_of}
use Rattle.mid_base.specs.Limits.{last_number}
use Rattle.mid_core.proofs.Known.{picked_command, state_of}
use Rattle.mid_core.proofs.Turns.{offline_goes, online_goes, spent}
use Rattle.mid_core.proofs.choosing.next_turn.Goals as goal

pub returns-then-not-online : goal.returns-then-not-online
returns-then-not-online c = λ s P runs.
    let r = c.args.running.now in
    let picked = c.in-Some.ensures s P runs in
    let calm : in_recovery P ≡ false = c.in_recovery.ensures s P runs ∙ c.if-in_recovery.false in
    let off : is_online s picked.command.dev P ≡ false =
    ap is_online_state (state_of s P r runs c.in-Some.place c.command-row.result c.command-row.ensures picked.command picked.at c.device_state.result c.device_state.ensures)
    ∙ sym c.online.ensures ∙ c.if-not-online.true
    in
    let named : is_online s (dev_of s picked.command.id.0) P ≡ false = ap (λ (k : CmdSpec). is_online s k.dev P) (picked_command s P r runs c.in-Some.place picked) ∙ off in
    record { picked = picked; calm = calm; device = off; free = λ due. offline_goes s due P picked.command.id.0 calm picked.picked named }

pub returns-then-count-ge-LAST_NUMBER : goal.returns-then-count-ge-LAST_NUMBER
returns-then-count-ge-LAST_NUMBER c = λ s P runs due.
    let r = c.args.running.now in
    let picked = c.in-Some.ensures s P runs in
    let calm : in_recovery P ≡ false = c.in_recovery.ensures s P runs ∙ c.if-in_recovery.false in
    let on : is_online s picked.command.dev P ≡ true =
    ap is_online_state (state_of s P r runs c.in-Some.place c.command-row.result c.command-row.ensures picked.command picked.at c.device_state.result c.device_state.ensures)
    ∙ sym c.online.ensures ∙ c.if-not-online.false
    in
    let named : is_online s (dev_of s picked.command.id.0) P ≡ true = ap (λ (k : CmdSpec). is_online s k.dev P) (picked_command s P r runs c.in-Some.place picked) ∙ on in
    let many : last_number ≤ sends P + 1 = omega (arith, runs.attempts.0.sends_are, c.count.ensures) in
    spent s due P picked.command.id.0 calm picked.picked named many

pub returns : goal.returns
returns c = λ s P runs.
    let r = c.args.running.now in
    let picked = c.in-Some.ensures s P runs in
    let calm : in_recovery P ≡ false = c.in_recovery.ensures s P runs ∙ c.if-in_recovery.false in
    let on : is_online s picked.command.dev P ≡ true =
    ap is_online_state (state_of s P r runs c.in-Some.place c.command-row.result c.command-row.ensures picked.command picked.at c.device_state.result c.device_state.ensures)
    ∙ sym c.online.ensures ∙ c.if-not-online.false
    in
    let named : is_online s (dev_of s picked.command.id.0) P ≡ true = ap (λ (k : CmdSpec). is_online s k.dev P) (picked_command s P r runs c.in-Some.place picked) ∙ on in
    let few : sends P + 1 < last_number = omega (arith, runs.attempts.0.sends_are, c.count.ensures) in
    record {
      turn = record { picked = picked; calm = calm; device = on; free = λ due. online_goes s due P picked.command.id.0 calm picked.picked named few };
      few = omega (arith, c.count.ensures);
    }
