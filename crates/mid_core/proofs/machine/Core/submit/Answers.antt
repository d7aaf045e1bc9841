use Rattle.std.proofs.Common.{reverse, refl, [], ◌∷◌}
use Rattle.mid_base.specs.declared.entries.Entry.TheVariants.{Took, Told}
use Rattle.mid_base.specs.Answers.{no_connect}
use Rattle.mid_base.specs.Past.{ticks}
use Rattle.command_table.proofs.Entries.{id_is}
use Rattle.mid_core.proofs.Known.{id_within}
use Rattle.mid_core.proofs.Groups.{refused, group_took, group_refused, opens_took, opens_refused, nothing_bars_handing}
use Rattle.mid_core.proofs.Staged.{refused_keeps, other_keeps}
use Rattle.mid_core.proofs.Holding.{idle, same_nature}
use Rattle.mid_core.proofs.Growing.{core_grows, added, back}
use Rattle.mid_core.proofs.machine.Core.submit.Goals as goal

pub command-requires-in-Ok-Take : goal.command-requires-in-Ok-Take
command-requires-in-Ok-Take g c =
    let core = c.self.invariant in
    let h = (rw c.in-Ok-Take.field-0-is at c.in-Ok-Take.ensures) c.self.inside.spec (reverse c.self.inside.book.entries) core.runs in
    id_within c.self.inside.running.commands.rows.items c.in-Ok-Take.place h.next.command.id h.next.id

pub returns-in-Err : goal.returns-in-Err
returns-in-Err g c =
    let core = c.self.invariant in
    rw (← c.self.view_is) (refl, c.in-Err.ensures c.self.inside.spec (reverse c.self.inside.book.entries) core.runs (g.A.HostTemplate.is_due c.self.inside.lower 0))

pub invariant_of-self-in-Ok-Refuse : goal.invariant_of-self-in-Ok-Refuse
invariant_of-self-in-Ok-Refuse g c =
    let core = c.self.invariant in
    let laws = g.met.A.HostTemplate g.world.𝓛 g.world.𝓜 g.world.𝓡 ((λ s x. x), (λ x. x), (λ x. x), λ x. x) in
    let spec = c.self.inside.spec in
    let P = reverse c.self.inside.book.entries in
    let r = c.self.inside.running in
    let i = c.in-Ok-Refuse.place in
    let h = (rw c.in-Ok-Refuse.field-0-is at c.in-Ok-Refuse.ensures) spec P core.runs in
    let id = id_is i r.commands.rows.items c.command.result h.next.command.id c.command.ensures h.next.id in
    rw (back c.self.inside.book.entries _ _ (Told c.command.result.id c.not_connected.result) c.in_ok-reserve-in-Ok-Refuse.ensures.entries c.push.ensures.entries, id, c.not_connected.ensures)
    (core_grows _ _ _ _ _ _ P (Told h.next.command.id no_connect ∷ []) _ _ _ _ core (refused_keeps spec P core.legal h.next.command.id no_connect (refused spec P r core.runs c.args.lane i _ h refl))
    (group_refused spec P r core.runs c.args.lane i _ h refl)
    (laws.silent c.self.inside.lower spec c.self.inside.before P (Told h.next.command.id no_connect) tt core.stood)
    (idle _)
    (c.refuse.ensures.runs spec P h.next.command.id no_connect h.next.id core.runs))

pub returns-in_ok-reserve-in-Ok-Refuse : goal.returns-in_ok-reserve-in-Ok-Refuse
returns-in_ok-reserve-in-Ok-Refuse g c =
    let core = c.self.invariant in
    let spec = c.self.inside.spec in
    let P = reverse c.self.inside.book.entries in
    let r = c.self.inside.running in
    let i = c.in-Ok-Refuse.place in
    let h = (rw c.in-Ok-Refuse.field-0-is at c.in-Ok-Refuse.ensures) spec P core.runs in
    let id = id_is i r.commands.rows.items c.command.result h.next.command.id c.command.ensures h.next.id in
    rw (← c.self.view_is) (record {
      spec = refl;
      before = refl;
      group = Told h.next.command.id no_connect ∷ [];
      journal = added c.self.inside.book.entries _ _ (Told h.next.command.id no_connect) c.in_ok-reserve-in-Ok-Refuse.ensures.entries (rw (id, c.not_connected.ensures) at c.push.ensures.entries);
      adds = record {
        opened = opens_refused spec P r core.runs c.args.lane i _ h no_connect refl;
        added = group_refused spec P r core.runs c.args.lane i _ h refl;
        free = nothing_bars_handing spec P r core.runs c.args.lane i _ h (g.A.HostTemplate.is_due c.self.inside.lower (ticks P));
      };
      enters = refl;
      tags = c.refuse.ensures.shown;
      nature = same_nature _;
    })

pub invariant_of-self-in-Ok-Take : goal.invariant_of-self-in-Ok-Take
invariant_of-self-in-Ok-Take g c =
    let core = c.self.invariant in
    let laws = g.met.A.HostTemplate g.world.𝓛 g.world.𝓜 g.world.𝓡 ((λ s x. x), (λ x. x), (λ x. x), λ x. x) in
    let spec = c.self.inside.spec in
    let P = reverse c.self.inside.book.entries in
    let r = c.self.inside.running in
    let i = c.in-Ok-Take.place in
    let h = (rw c.in-Ok-Take.field-0-is at c.in-Ok-Take.ensures) spec P core.runs in
    let id = id_is i r.commands.rows.items c.command-in-Ok-Take.result h.next.command.id c.command-in-Ok-Take.ensures h.next.id in
    rw (back c.self.inside.book.entries _ _ (Took c.command-in-Ok-Take.result.id) c.in_ok-reserve-in-Ok-Take.ensures.entries c.push-in-Ok-Take.ensures.entries, id)
    (core_grows _ _ _ _ _ _ P (Took h.next.command.id ∷ []) _ _ _ _ core (other_keeps spec P (Took h.next.command.id) refl (λ begun. tt))
    (group_took spec P r core.runs c.args.lane i _ h refl)
    (laws.silent c.self.inside.lower spec c.self.inside.before P (Took h.next.command.id) tt core.stood)
    (idle _)
    (c.in_ok-take-in-Ok-Take.ensures.runs spec P h.next.command.id h.next.id core.runs))

pub returns-in_ok-take-in-Ok-Take : goal.returns-in_ok-take-in-Ok-Take
returns-in_ok-take-in-Ok-Take g c =
    let core = c.self.invariant in
    let spec = c.self.inside.spec in
    let P = reverse c.self.inside.book.entries in
    let r = c.self.inside.running in
    let i = c.in-Ok-Take.place in
    let h = (rw c.in-Ok-Take.field-0-is at c.in-Ok-Take.ensures) spec P core.runs in
    let id = id_is i r.commands.rows.items c.command-in-Ok-Take.result h.next.command.id c.command-in-Ok-Take.ensures h.next.id in
    rw (← c.self.view_is) (record {
      spec = refl;
      before = refl;
      group = Took h.next.command.id ∷ [];
      journal = added c.self.inside.book.entries _ _ (Took h.next.command.id) c.in_ok-reserve-in-Ok-Take.ensures.entries (rw id at c.push-in-Ok-Take.ensures.entries);
      adds = record {
        opened = opens_took spec P r core.runs c.args.lane i _ h;
        added = group_took spec P r core.runs c.args.lane i _ h refl;
        free = nothing_bars_handing spec P r core.runs c.args.lane i _ h (g.A.HostTemplate.is_due c.self.inside.lower (ticks P));
      };
      enters = refl;
      tags = c.take.ensures.shown;
      nature = same_nature _;
    })
