use Rattle.std.proofs.Common.{reverse, refl, [], ◌∷◌, None}
use Rattle.mid_base.specs.declared.entries.Entry.TheVariants.{EhEnd}
use Rattle.mid_base.specs.Past.{ticks}
use Rattle.mid_core.proofs.Flushed.{begun, nothing_left, group_ended, nothing_bars_ending}
use Rattle.mid_core.proofs.Holding.{idle, same_nature}
use Rattle.mid_core.proofs.Growing.{core_recovers, added, back}
use Rattle.mid_core.proofs.machine.Core.end_recovery.Goals as goal

pub invariant_of-self-2 : goal.invariant_of-self-2
invariant_of-self-2 g c =
    let core = c.self.invariant in
    let spec = c.self.inside.spec in
    let P = reverse c.self.inside.book.entries in
    let laws = g.met.A.HostTemplate g.world.𝓛 g.world.𝓜 g.world.𝓡 ((λ s x. x), (λ x. x), (λ x. x), λ x. x) in
    let begins = begun spec P c.self.inside.ladder c.in-Some.ladder c.in-Some.is core.stage in
    let none = nothing_left spec P c.self.inside.ladder c.in-Some.ladder c.in-Some.is core.stage c.left.result.now c.is_empty.result c.left.ensures c.is_empty.ensures c.if-not-is_empty.false in
    rw (back c.self.inside.book.entries _ _ EhEnd c.in_ok-reserve.ensures.entries c.push.ensures.entries)
    (core_recovers _ _ _ _ _ _ P (EhEnd ∷ []) _ _ _ None _ _ core
    (group_ended spec P begins none c.has_failed.result (c.has_failed.ensures spec P core.runs) c.if-has_failed.false)
    (laws.silent c.self.inside.lower spec c.self.inside.before P EhEnd tt core.stood)
    (idle _)
    (c.end_recovery.ensures.runs spec P core.runs)
    refl
    core.buffer)

pub returns : goal.returns
returns g c =
    let core = c.self.invariant in
    let spec = c.self.inside.spec in
    let P = reverse c.self.inside.book.entries in
    let begins = begun spec P c.self.inside.ladder c.in-Some.ladder c.in-Some.is core.stage in
    let none = nothing_left spec P c.self.inside.ladder c.in-Some.ladder c.in-Some.is core.stage c.left.result.now c.is_empty.result c.left.ensures c.is_empty.ensures c.if-not-is_empty.false in
    let over = c.has_failed.ensures spec P core.runs in
    rw (← c.self.view_is) (record {
      spec = refl;
      before = refl;
      group = EhEnd ∷ [];
      journal = added c.self.inside.book.entries _ _ EhEnd c.in_ok-reserve.ensures.entries c.push.ensures.entries;
      adds = record {
        opened = refl;
        added = group_ended spec P begins none c.has_failed.result over c.if-has_failed.false;
        free = nothing_bars_ending spec P begins none c.has_failed.result over c.if-has_failed.false (g.A.HostTemplate.is_due c.self.inside.lower (ticks P));
      };
      enters = refl;
      tags = c.end_recovery.ensures.shown;
      nature = same_nature _;
    })
