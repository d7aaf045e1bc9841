use Rattle.std.proofs.Common.{reverse, ◌∙◌, refl, [], ◌∷◌}
use Rattle.mid_base.specs.declared.entries.Entry.TheVariants.{Late}
use Rattle.mid_base.specs.Past.{ticks}
use Rattle.mid_core.proofs.Groups.{same, enters_late, group_late, nothing_bars_dropping}
use Rattle.mid_core.proofs.Staged.{other_keeps}
use Rattle.mid_core.proofs.Holding.{idle, same_nature}
use Rattle.mid_core.proofs.Growing.{core_grows, added, back}
use Rattle.mid_core.proofs.machine.Core.drop_late.Goals as goal

pub invariant_of-self-2 : goal.invariant_of-self-2
invariant_of-self-2 g c =
    let core = c.self.invariant in
    let spec = c.self.inside.spec in
    let P = reverse c.self.inside.book.entries in
    let r = c.self.inside.running in
    let laws = g.met.A.HostTemplate g.world.𝓛 g.world.𝓜 g.world.𝓡 ((λ s x. x), (λ x. x), (λ x. x), λ x. x) in
    rw (back c.self.inside.book.entries _ _ (Late c.args.n) c.in_ok-reserve.ensures.entries c.push.ensures.entries)
    (core_grows _ _ _ _ _ _ P (Late c.args.n ∷ []) _ _ _ _ core (other_keeps spec P (Late c.args.n) refl (λ begun. tt))
    (group_late spec P c.args.n (c.is_late.ensures spec P core.runs ∙ c.if-not-is_late.false))
    (laws.silent c.self.inside.lower spec c.self.inside.before P (Late c.args.n) tt core.stood)
    (idle _)
    (c.drop_late.ensures.runs spec P core.runs))

pub returns-clause-answer : goal.returns-clause-answer
returns-clause-answer g c =
    let core = c.self.invariant in
    let spec = c.self.inside.spec in
    let P = reverse c.self.inside.book.entries in
    let r = c.self.inside.running in
    let late = c.is_late.ensures spec P core.runs ∙ c.if-not-is_late.false in
    rw (← c.self.view_is) (record {
      spec = refl;
      before = refl;
      group = Late c.args.n ∷ [];
      journal = added c.self.inside.book.entries _ _ (Late c.args.n) c.in_ok-reserve.ensures.entries c.push.ensures.entries;
      adds = record {
        opened = same c.args.n.0;
        added = group_late spec P c.args.n late;
        free = nothing_bars_dropping spec P c.args.n late (g.A.HostTemplate.is_due c.self.inside.lower (ticks P));
      };
      enters = enters_late c.args.n;
      tags = c.drop_late.ensures.shown;
      nature = same_nature _;
    })
