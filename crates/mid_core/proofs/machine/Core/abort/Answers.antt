use Rattle.std.proofs.Common.{reverse, ◌≡◌, sym, subst, refl, true, [], ◌∷◌}
use Rattle.std.specs.List.{list_all}
use Rattle.mid_base.specs.declared.entries.Entry.{Entry}
use Rattle.mid_base.specs.declared.entries.Entry.TheVariants.{Aborted}
use Rattle.mid_base.specs.declared.steps.Step.TheVariants as step
use Rattle.mid_base.specs.Past.{ticks}
use Rattle.host_template.specs.Laws.{IsSilent}
use Rattle.mid_core.specs.Steps.{may_enter}
use Rattle.mid_core.proofs.Groups.{group_aborted, nothing_bars_aborting, after_abort_silent, aborted_enters}
use Rattle.mid_core.proofs.Staged.{Keeps, aborted_keeps, aborting_calm}
use Rattle.mid_core.proofs.Growing.{core_grows, added2, back2}
use Rattle.mid_core.proofs.machine.Core.abort.Goals as goal

pub invariant_of-self-2 : goal.invariant_of-self-2
invariant_of-self-2 g c =
    let core = c.self.invariant in
    let spec = c.self.inside.spec in
    let before = c.self.inside.before in
    let P = reverse c.self.inside.book.entries in
    let r = c.self.inside.running in
    let laws = g.met.A.HostTemplate g.world.𝓛 g.world.𝓜 g.world.𝓡 ((λ s x. x), (λ x. x), (λ x. x), λ x. x) in
    let n = c.in-Some.first.attempt in
    let row = c.in-Some.first.row in
    let it = c.in-Some.ensures spec P core.runs in
    let ok = c.try_abort-ok.result in
    let follow = c.settle_aborted-follows.result in
    let right = c.settle_aborted-follows.ensures.entry P core.runs in
    rw (back2 c.self.inside.book.entries _ _ _ (Aborted row.command n ok) follow c.in_ok-reserve.ensures.entries c.push.ensures.entries c.push-2.ensures.entries)
    (core_grows _ _ _ _ _ _ P (Aborted row.command n ok ∷ follow ∷ []) _ _ _ _ core
    (subst (λ (x : Entry). Keeps spec P (Aborted row.command n ok ∷ x ∷ [])) (sym right) (aborted_keeps spec P row.command n ok (aborting_calm spec P core.legal n.0 it.first)))
    (group_aborted spec P row.command n ok it.first it.sent c.try_abort-ok.ensures.calls follow right)
    (laws.silent c.try_abort-ok.new.lower spec before (Aborted row.command n ok ∷ P) follow (subst (λ (x : Entry). IsSilent spec x) (sym right) (after_abort_silent spec P row.command n ok))
    (c.try_abort-ok.ensures.stands P before core.runs core.stood))
    (c.try_abort-ok.ensures.nature, c.try_abort-ok.ensures.honest P)
    (c.settle_aborted-follows.ensures.runs P core.runs))

pub returns : goal.returns
returns g c =
    let core = c.self.invariant in
    let spec = c.self.inside.spec in
    let before = c.self.inside.before in
    let P = reverse c.self.inside.book.entries in
    let r = c.self.inside.running in
    let n = c.in-Some.first.attempt in
    let row = c.in-Some.first.row in
    let it = c.in-Some.ensures spec P core.runs in
    let ok = c.try_abort-ok.result in
    let follow = c.settle_aborted-follows.result in
    let right = c.settle_aborted-follows.ensures.entry P core.runs in
    rw (← c.self.view_is) (record {
      spec = refl;
      before = refl;
      group = Aborted row.command n ok ∷ follow ∷ [];
      journal = added2 c.self.inside.book.entries _ _ _ (Aborted row.command n ok) follow c.in_ok-reserve.ensures.entries c.push.ensures.entries c.push-2.ensures.entries;
      adds = record {
        opened = refl;
        added = group_aborted spec P row.command n ok it.first it.sent c.try_abort-ok.ensures.calls follow right;
        free = nothing_bars_aborting spec P row.command n ok it.first it.sent c.try_abort-ok.ensures.calls (g.A.HostTemplate.is_due c.self.inside.lower (ticks P));
      };
      enters = subst (λ (x : Entry). list_all (may_enter step.Abort) (Aborted row.command n ok ∷ x ∷ []) ≡ true) (sym right) (aborted_enters spec P row.command n ok);
      tags = c.settle_aborted-follows.ensures.shown;
      nature = c.try_abort-ok.ensures.nature;
    })
