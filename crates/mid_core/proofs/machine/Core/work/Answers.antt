use Rattle.std.proofs.Common.{reverse, ap, ◌∙◌, sym, refl, [], ◌∷◌, ◌≡◌, true}
use Rattle.mid_base.specs.declared.entries.Entry.TheVariants.{Ready}
use Rattle.mid_base.specs.Past.{ticks}
use Rattle.mid_core.proofs.Staged.{ready_keeps}
use Rattle.mid_core.proofs.Growing.{core_grows, added, back}
use Rattle.mid_core.proofs.machine.Core.work.Goals as goal

pub invariant_of-self-in-Some : goal.invariant_of-self-in-Some
invariant_of-self-in-Some g c =
    let core = c.self.invariant in
    let spec = c.self.inside.spec in
    let P = reverse c.self.inside.book.entries in
    let roomy = c.in_ok-reserve-2.ensures.same spec P core.runs in
    let told = rw c.in-Some.is at c.in_ok-n.ensures.none in
    let did = rw c.in-Some.is at c.in_ok-n.ensures.honest in
    rw (back c.self.inside.book.entries _ _ (Ready c.in-Some.n c.in-Some.a) c.in_ok-reserve.ensures.entries c.push.ensures.entries)
    (core_grows _ _ _ _ _ _ P (Ready c.in-Some.n c.in-Some.a ∷ []) _ _ _ _ core (ready_keeps spec P core.legal c.in-Some.n c.in-Some.a) (tt, tt)
    (told spec c.self.inside.before P (c.now-now.ensures ∙ sym core.runs.time) core.stood)
    (c.work.ensures.nature, did)
    (c.answer.ensures.runs spec P roomy))

pub returns : goal.returns
returns g c =
    let core = c.self.invariant in
    let spec = c.self.inside.spec in
    let P = reverse c.self.inside.book.entries in
    let due : g.A.HostTemplate.is_due c.self.inside.lower (ticks P) ≡ true =
    ap (g.A.HostTemplate.is_due c.self.inside.lower) (core.runs.time ∙ sym c.now-now.ensures) ∙ (sym c.due.ensures ∙ c.if-not-due.false)
    in
    rw (← c.self.view_is) (record {
      spec = refl;
      before = refl;
      group = Ready c.in-Some.n c.in-Some.a ∷ [];
      journal = added c.self.inside.book.entries _ _ (Ready c.in-Some.n c.in-Some.a) c.in_ok-reserve.ensures.entries c.push.ensures.entries;
      adds = record {
        opened = refl;
        added = (tt, tt);
        free = rw due refl;
      };
      enters = refl;
      tags = c.answer.ensures.shown ∙ c.in_ok-reserve-2.ensures.shown;
      nature = c.work.ensures.nature;
    })
