use Rattle.std.proofs.Common.{reverse, refl, [], ◌∷◌}
use Rattle.mid_base.specs.declared.entries.Entry.TheVariants.{Sent, Bounced, Told}
use Rattle.mid_base.specs.Answers.{no_connect}
use Rattle.mid_base.specs.Past.{ticks}
use Rattle.trace_model.proofs.Making.{goes_on_back}
use Rattle.command_table.proofs.Entries.{id_is}
use Rattle.mid_core.proofs.Offered.{picked_id}
use Rattle.mid_core.proofs.Groups.{group_stranded, stranded, group_handed, group_bounced}
use Rattle.mid_core.proofs.Staged.{calm_keeps, keeps_stage, sending_calm}
use Rattle.mid_core.proofs.Holding.{does_right, idle, same_nature}
use Rattle.mid_core.proofs.Growing.{core_grows, added, back, added2, back2}
use Rattle.mid_core.proofs.machine.Core.send.Goals as goal

pub returns-in-Err : goal.returns-in-Err
returns-in-Err g c =
    let core = c.self.invariant in
    rw (← c.self.view_is) (refl, c.in-Err.ensures c.self.inside.spec (reverse c.self.inside.book.entries) core.runs (g.A.HostTemplate.is_due c.self.inside.lower 0))

pub invariant_of-self-in-Ok-Report : goal.invariant_of-self-in-Ok-Report
invariant_of-self-in-Ok-Report g c =
    let core = c.self.invariant in
    let laws = g.met.A.HostTemplate g.world.𝓛 g.world.𝓜 g.world.𝓡 ((λ s x. x), (λ x. x), (λ x. x), λ x. x) in
    let spec = c.self.inside.spec in
    let P = reverse c.self.inside.book.entries in
    let r = c.self.inside.running in
    let i = c.in-Ok-Report.place in
    let h = (rw c.in-Ok-Report.field-0-is at c.in-Ok-Report.ensures) spec P core.runs in
    let there = picked_id spec P r i h.picked in
    let id = id_is i r.commands.rows.items c.command.result h.picked.command.id c.command.ensures there in
    rw (back c.self.inside.book.entries _ _ (Told c.command.result.id c.not_connected.result) c.in_ok-reserve-in-Ok-Report.ensures.entries c.push.ensures.entries, id, c.not_connected.ensures)
    (core_grows _ _ _ _ _ _ P (Told h.picked.command.id no_connect ∷ []) _ _ _ _ core (calm_keeps spec P (Told h.picked.command.id no_connect ∷ []) refl (sending_calm spec P core.legal h.calm))
    (group_stranded spec P r core.runs i _ h refl)
    (laws.silent c.self.inside.lower spec c.self.inside.before P (Told h.picked.command.id no_connect) tt core.stood)
    (idle _)
    (c.strand.ensures.runs spec P h.picked.command.id no_connect there core.runs))

pub returns-in_ok-reserve-in-Ok-Report : goal.returns-in_ok-reserve-in-Ok-Report
returns-in_ok-reserve-in-Ok-Report g c =
    let core = c.self.invariant in
    let spec = c.self.inside.spec in
    let P = reverse c.self.inside.book.entries in
    let r = c.self.inside.running in
    let i = c.in-Ok-Report.place in
    let h = (rw c.in-Ok-Report.field-0-is at c.in-Ok-Report.ensures) spec P core.runs in
    let id = id_is i r.commands.rows.items c.command.result h.picked.command.id c.command.ensures (picked_id spec P r i h.picked) in
    rw (← c.self.view_is) (record {
      spec = refl;
      before = refl;
      group = Told h.picked.command.id no_connect ∷ [];
      journal = added c.self.inside.book.entries _ _ (Told h.picked.command.id no_connect) c.in_ok-reserve-in-Ok-Report.ensures.entries (rw (id, c.not_connected.ensures) at c.push.ensures.entries);
      adds = record {
        opened = stranded spec P r core.runs i _ h refl;
        added = group_stranded spec P r core.runs i _ h refl;
        free = h.free (g.A.HostTemplate.is_due c.self.inside.lower (ticks P));
      };
      enters = refl;
      tags = c.strand.ensures.shown;
      nature = same_nature _;
    })

pub invariant_of-self-in-None : goal.invariant_of-self-in-None
invariant_of-self-in-None g c =
    let core = c.self.invariant in
    let spec = c.self.inside.spec in
    let P = reverse c.self.inside.book.entries in
    let r = c.self.inside.running in
    let o = c.in_ok-handed-in-Ok-Send.handed in
    let made = c.in_ok-handed-in-Ok-Send.ensures in
    let may = (rw (c.in-Ok-Send.field-0-is, ← c.in-Ok-Send.place-is) at c.in-Ok-Send.ensures) spec P core.runs in
    let told = made.runs P core.runs may in
    rw (back c.self.inside.book.entries _ _ (Sent o.id o.attempt o.tag) c.in_ok-reserve-in-Ok-Send.ensures.entries c.push-in-Ok-Send.ensures.entries)
    (core_grows _ _ _ _ _ _ P (Sent o.id o.attempt o.tag ∷ []) _ _ _ _ core (calm_keeps spec P (Sent o.id o.attempt o.tag ∷ []) refl (sending_calm spec P core.legal may.turn.calm))
    (group_handed spec P r c.hand_over.new.running core.runs _ may o told)
    (rw c.in-None.is at (made.stands P c.self.inside.before core.runs may core.stood))
    (c.hand_over.ensures.nature, rw c.in-None.is at (made.honest P core.runs may))
    (rw c.in-None.is at told.runs))

pub returns-in-None : goal.returns-in-None
returns-in-None g c =
    let core = c.self.invariant in
    let spec = c.self.inside.spec in
    let P = reverse c.self.inside.book.entries in
    let r = c.self.inside.running in
    let o = c.in_ok-handed-in-Ok-Send.handed in
    let made = c.in_ok-handed-in-Ok-Send.ensures in
    let may = (rw (c.in-Ok-Send.field-0-is, ← c.in-Ok-Send.place-is) at c.in-Ok-Send.ensures) spec P core.runs in
    let told = made.runs P core.runs may in
    rw (← c.self.view_is) (record {
      spec = refl;
      before = refl;
      group = Sent o.id o.attempt o.tag ∷ [];
      journal = added c.self.inside.book.entries _ _ (Sent o.id o.attempt o.tag) c.in_ok-reserve-in-Ok-Send.ensures.entries c.push-in-Ok-Send.ensures.entries;
      adds = record {
        opened = refl;
        added = group_handed spec P r c.hand_over.new.running core.runs _ may o told;
        free = may.turn.free (g.A.HostTemplate.is_due c.self.inside.lower (ticks P));
      };
      enters = refl;
      tags = rw c.in-None.is at made.shown;
      nature = c.hand_over.ensures.nature;
    })

pub invariant_of-self-in-Some : goal.invariant_of-self-in-Some
invariant_of-self-in-Some g c =
    let core = c.self.invariant in
    let spec = c.self.inside.spec in
    let P = reverse c.self.inside.book.entries in
    let r = c.self.inside.running in
    let o = c.in_ok-handed-in-Ok-Send.handed in
    let made = c.in_ok-handed-in-Ok-Send.ensures in
    let may = (rw (c.in-Ok-Send.field-0-is, ← c.in-Ok-Send.place-is) at c.in-Ok-Send.ensures) spec P core.runs in
    let told = made.runs P core.runs may in
    let sent = Sent o.id o.attempt o.tag in
    let why = c.in-Some.why in
    rw (back2 c.self.inside.book.entries _ _ _ sent (Bounced o.id o.attempt why) c.in_ok-reserve-in-Ok-Send.ensures.entries c.push-in-Ok-Send.ensures.entries c.push-in-Some.ensures.entries) (record {
      legal =
          goes_on_back spec (sent ∷ P) (Bounced o.id o.attempt why ∷ [])
          (goes_on_back spec P (sent ∷ []) core.legal (group_handed spec P r c.hand_over.new.running core.runs _ may o told))
          (group_bounced spec P o.id o.attempt o.tag why);
      stood = rw c.in-Some.is at (made.stands P c.self.inside.before core.runs may core.stood);
      right =
          does_right spec P (sent ∷ Bounced o.id o.attempt why ∷ []) _ _ core.legal (group_handed spec P r c.hand_over.new.running core.runs _ may o told, group_bounced spec P o.id o.attempt o.tag why)
          (c.hand_over.ensures.nature, rw c.in-Some.is at (made.honest P core.runs may)) core.right;
      runs = rw c.in-Some.is at told.runs;
      stage = keeps_stage spec P (sent ∷ Bounced o.id o.attempt why ∷ []) _ (calm_keeps spec P (sent ∷ Bounced o.id o.attempt why ∷ []) refl (sending_calm spec P core.legal may.turn.calm)) core.stage;
      buffer = core.buffer;
    })

pub returns-in-Some : goal.returns-in-Some
returns-in-Some g c =
    let core = c.self.invariant in
    let spec = c.self.inside.spec in
    let P = reverse c.self.inside.book.entries in
    let r = c.self.inside.running in
    let o = c.in_ok-handed-in-Ok-Send.handed in
    let made = c.in_ok-handed-in-Ok-Send.ensures in
    let may = (rw (c.in-Ok-Send.field-0-is, ← c.in-Ok-Send.place-is) at c.in-Ok-Send.ensures) spec P core.runs in
    let told = made.runs P core.runs may in
    let why = c.in-Some.why in
    rw (← c.self.view_is) (record {
      spec = refl;
      before = refl;
      group = Sent o.id o.attempt o.tag ∷ Bounced o.id o.attempt why ∷ [];
      journal = added2 c.self.inside.book.entries _ _ _ (Sent o.id o.attempt o.tag) (Bounced o.id o.attempt why) c.in_ok-reserve-in-Ok-Send.ensures.entries c.push-in-Ok-Send.ensures.entries c.push-in-Some.ensures.entries;
      adds = record {
        opened = refl;
        added = (group_handed spec P r c.hand_over.new.running core.runs _ may o told, group_bounced spec P o.id o.attempt o.tag why);
        free = may.turn.free (g.A.HostTemplate.is_due c.self.inside.lower (ticks P));
      };
      enters = refl;
      tags = rw c.in-Some.is at made.shown;
      nature = c.hand_over.ensures.nature;
    })
