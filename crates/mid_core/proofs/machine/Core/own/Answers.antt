use Rattle.std.proofs.Common.{reverse, ◌≡◌, ◌∙◌, sym, refl, Bool, true, false, not, [], ◌∷◌}
use Rattle.mid_base.specs.declared.entries.Entry.TheVariants.{Owned}
use Rattle.mid_base.specs.Past.{ticks}
use Rattle.mid_core.proofs.Groups.{is_opened, group_owned, nothing_bars_owning, opens_owned, enters_owned}
use Rattle.mid_core.proofs.Staged.{calm_keeps, open_calm}
use Rattle.mid_core.proofs.Holding.{idle, same_nature}
use Rattle.mid_core.proofs.Growing.{core_grows, added, back}
use Rattle.mid_core.proofs.machine.Core.own.Goals as goal

is_so : (b : Bool) → not b ≡ false → b ≡ true
is_so true h = refl
is_so false h = cc

pub invariant_of-self-2 : goal.invariant_of-self-2
invariant_of-self-2 g c =
    let core = c.self.invariant in
    let laws = g.met.A.HostTemplate g.world.𝓛 g.world.𝓜 g.world.𝓡 ((λ s x. x), (λ x. x), (λ x. x), λ x. x) in
    let spec = c.self.inside.spec in
    let P = reverse c.self.inside.book.entries in
    let r = c.self.inside.running in
    let row = c.in-Some.row in
    rw (back c.self.inside.book.entries _ _ (Owned c.args.n c.args.by) c.in_ok-reserve.ensures.entries c.push.ensures.entries)
    (core_grows _ _ _ _ _ _ P (Owned c.args.n c.args.by ∷ []) _ _ _ _ core (calm_keeps spec P (Owned c.args.n c.args.by ∷ []) refl (open_calm spec P core.legal c.args.n.0 (is_opened spec P r core.runs c.args.n c.args.by row (sym c.attempt.ensures ∙ c.in-Some.is) (is_so row.out c.if-not-row.false) (sym c.has_cause.ensures ∙ c.if-not-has_cause.false))))
    (group_owned spec P r core.runs c.args.n c.args.by row (sym c.attempt.ensures ∙ c.in-Some.is) (is_so row.out c.if-not-row.false) (sym c.has_cause.ensures ∙ c.if-not-has_cause.false))
    (laws.silent c.self.inside.lower spec c.self.inside.before P (Owned c.args.n c.args.by) tt core.stood)
    (idle _)
    (c.own.ensures.runs spec P core.runs))

pub returns-clause-answer : goal.returns-clause-answer
returns-clause-answer g c =
    let core = c.self.invariant in
    let spec = c.self.inside.spec in
    let P = reverse c.self.inside.book.entries in
    let r = c.self.inside.running in
    let row = c.in-Some.row in
    let there = sym c.attempt.ensures ∙ c.in-Some.is in
    let opened = is_so row.out c.if-not-row.false in
    let caused = sym c.has_cause.ensures ∙ c.if-not-has_cause.false in
    rw (← c.self.view_is) (record {
      spec = refl;
      before = refl;
      group = Owned c.args.n c.args.by ∷ [];
      journal = added c.self.inside.book.entries _ _ (Owned c.args.n c.args.by) c.in_ok-reserve.ensures.entries c.push.ensures.entries;
      adds = record {
        opened = opens_owned spec P c.args.n c.args.by;
        added = group_owned spec P r core.runs c.args.n c.args.by row there opened caused;
        free = nothing_bars_owning spec P r core.runs c.args.n c.args.by row there opened caused (g.A.HostTemplate.is_due c.self.inside.lower (ticks P));
      };
      enters = enters_owned c.args.n c.args.by;
      tags = c.own.ensures.shown spec P core.runs;
      nature = same_nature _;
    })
