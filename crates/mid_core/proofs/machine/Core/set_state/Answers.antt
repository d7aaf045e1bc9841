use Rattle.std.proofs.Common.{reverse, ap, ◌∙◌, ◌≡◌, sym, refl, [], ◌∷◌, true, false}
use Rattle.mid_base.specs.declared.entries.Entry.TheVariants.{State}
use Rattle.mid_base.specs.declared.states.DeviceState.{DeviceState}
use Rattle.mid_base.specs.Past.{ticks}
use Rattle.device_states.specs.States.{may_become}
use Rattle.trace_model.specs.Devices.{state}
use Rattle.mid_core.proofs.Known.{dev_within, dev_state}
use Rattle.mid_core.proofs.Groups.{enters_state, group_state, opens_state, nothing_bars_a_state, illegal_state, legal_pair, illegal_pair}
use Rattle.mid_core.proofs.Staged.{calm_keeps, stage_calm}
use Rattle.mid_core.proofs.Holding.{idle, same_nature}
use Rattle.mid_core.proofs.Growing.{core_grows, added, back}
use Rattle.mid_core.proofs.machine.Core.set_state.Goals as goal

pub set_state-requires : goal.set_state-requires
set_state-requires g c =
    let core = c.self.invariant in
    dev_within c.self.inside.running.devices.rows.items c.in-Some.place c.args.dev (c.in-Some.ensures c.self.inside.spec (reverse c.self.inside.book.entries) core.runs).0

pub returns-in-Err : goal.returns-in-Err
returns-in-Err g c =
    let core = c.self.invariant in
    let spec = c.self.inside.spec in
    let P = reverse c.self.inside.book.entries in
    let calm = stage_calm spec P c.self.inside.ladder (sym c.is_some.ensures ∙ c.if-is_some.false) core.stage in
    let there = c.in-Some.ensures spec P core.runs in
    let had = dev_state spec P c.self.inside.running core.runs c.in-Some.place c.args.dev there.0 c.device_state.result c.device_state.ensures in
    let bad : may_become (state spec c.args.dev P) c.args.state ≡ false =
    ap (λ (x : DeviceState). may_become x c.args.state) had ∙ illegal_pair (may_become c.device_state.result c.args.state) c.device_state.result c.args.state c.in-Err.field-0 (sym c.set_device.ensures ∙ c.in-Err.is)
    in
    rw (← c.self.view_is) (refl, illegal_state spec P (g.A.HostTemplate.is_due c.self.inside.lower 0) c.args.dev c.args.state calm bad)

pub invariant_of-self-in-Ok : goal.invariant_of-self-in-Ok
invariant_of-self-in-Ok g c =
    let core = c.self.invariant in
    let laws = g.met.A.HostTemplate g.world.𝓛 g.world.𝓜 g.world.𝓡 ((λ s x. x), (λ x. x), (λ x. x), λ x. x) in
    let spec = c.self.inside.spec in
    let P = reverse c.self.inside.book.entries in
    let calm = stage_calm spec P c.self.inside.ladder (sym c.is_some.ensures ∙ c.if-is_some.false) core.stage in
    let there = c.in-Some.ensures spec P core.runs in
    let had = dev_state spec P c.self.inside.running core.runs c.in-Some.place c.args.dev there.0 c.device_state.result c.device_state.ensures in
    let may : may_become (state spec c.args.dev P) c.args.state ≡ true =
    ap (λ (x : DeviceState). may_become x c.args.state) had ∙ legal_pair (may_become c.device_state.result c.args.state) c.device_state.result c.args.state c.in-Ok.field-0 (sym c.set_device.ensures ∙ c.in-Ok.is)
    in
    rw (back c.self.inside.book.entries _ _ (State c.args.dev c.args.state) c.in_ok-reserve-in-Ok.ensures.entries c.push.ensures.entries)
    (core_grows _ _ _ _ _ _ P (State c.args.dev c.args.state ∷ []) _ _ _ _ core (calm_keeps spec P (State c.args.dev c.args.state ∷ []) refl calm)
    (group_state spec P c.args.dev c.args.state calm there.1 may)
    (laws.silent c.self.inside.lower spec c.self.inside.before P (State c.args.dev c.args.state) tt core.stood)
    (idle _)
    (c.set_state.ensures.runs spec P c.args.dev there.0 core.runs))

pub returns-in_ok-reserve-in-Ok : goal.returns-in_ok-reserve-in-Ok
returns-in_ok-reserve-in-Ok g c =
    let core = c.self.invariant in
    let spec = c.self.inside.spec in
    let P = reverse c.self.inside.book.entries in
    let calm = stage_calm spec P c.self.inside.ladder (sym c.is_some.ensures ∙ c.if-is_some.false) core.stage in
    let there = c.in-Some.ensures spec P core.runs in
    let had = dev_state spec P c.self.inside.running core.runs c.in-Some.place c.args.dev there.0 c.device_state.result c.device_state.ensures in
    let may : may_become (state spec c.args.dev P) c.args.state ≡ true =
    ap (λ (x : DeviceState). may_become x c.args.state) had ∙ legal_pair (may_become c.device_state.result c.args.state) c.device_state.result c.args.state c.in-Ok.field-0 (sym c.set_device.ensures ∙ c.in-Ok.is)
    in
    rw (← c.self.view_is) (record {
      spec = refl;
      before = refl;
      group = State c.args.dev c.args.state ∷ [];
      journal = added c.self.inside.book.entries _ _ (State c.args.dev c.args.state) c.in_ok-reserve-in-Ok.ensures.entries c.push.ensures.entries;
      adds = record {
        opened = opens_state spec P c.args.dev c.args.state;
        added = group_state spec P c.args.dev c.args.state calm there.1 may;
        free = nothing_bars_a_state spec P c.args.dev c.args.state calm there.1 may (g.A.HostTemplate.is_due c.self.inside.lower (ticks P));
      };
      enters = enters_state spec P c.args.dev c.args.state;
      tags = c.set_state.ensures.shown;
      nature = same_nature _;
    })
