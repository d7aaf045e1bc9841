use Rattle.std.proofs.Common.{reverse, ◌≡◌, sym, subst, refl, true, [], ◌∷◌}
use Rattle.std.specs.List.{list_all}
use Rattle.mid_base.specs.declared.answers.By.TheVariants.{Answer as ByAnswer, Expiry as ByExpiry}
use Rattle.mid_base.specs.declared.entries.Entry.{Entry}
use Rattle.mid_base.specs.declared.entries.Entry.TheVariants.{Judged}
use Rattle.mid_base.specs.declared.steps.Step.TheVariants.{Settle}
use Rattle.mid_base.specs.Past.{ticks}
use Rattle.host_template.specs.Laws.{IsSilent}
use Rattle.trace_model.specs.Steps.{opens}
use Rattle.mid_core.specs.Choices.{follow_of}
use Rattle.mid_core.specs.Steps.{may_enter}
use Rattle.mid_core.proofs.Groups.{not_settled, group_judged, group_expired, added_expired, nothing_bars_settling, opens_judged, opens_expired, follow_silent, follow_enters, expired_silent, expired_enters}
use Rattle.mid_core.proofs.Staged.{Keeps, follow_keeps, expired_keeps, unsettled_calm}
use Rattle.mid_core.proofs.Holding.{Does, idle, same_nature, expired_does}
use Rattle.mid_core.proofs.Growing.{core_grows, added, back, added2, back2}
use Rattle.mid_core.proofs.machine.Core.settle.Goals as goal

pub invariant_of-self-in-Some-Answered : goal.invariant_of-self-in-Some-Answered
invariant_of-self-in-Some-Answered g c =
    let core = c.self.invariant in
    let spec = c.self.inside.spec in
    let before = c.self.inside.before in
    let P = reverse c.self.inside.book.entries in
    let r = c.self.inside.running in
    let n = c.args.n in
    let laws = g.met.A.HostTemplate g.world.𝓛 g.world.𝓜 g.world.𝓡 ((λ s x. x), (λ x. x), (λ x. x), λ x. x) in
    let row = c.in-Some-Answered.row in
    let a = c.in-Some-Answered.answer in
    let d = c.judge-disposition.result in
    let follow = follow_of row.command n a d in
    let told = (rw c.in-Some-Answered.field-0-is at c.in-Some-Answered.ensures) spec P core.runs in
    let calm = unsettled_calm spec P core.legal n.0 (not_settled spec P r core.runs n row ByAnswer told.0) in
    let silent = laws.silent c.self.inside.lower spec before in
    rw (back2 c.self.inside.book.entries _ _ _ (Judged row.command n d) c.settle_by-follows.result c.in_ok-reserve-in-Some-Answered.ensures.entries c.push.ensures.entries c.push-in-Some-Answered.ensures.entries, c.settle_by-follows.ensures.entry)
    (core_grows _ _ _ _ _ _ P (Judged row.command n d ∷ follow ∷ []) _ _ _ _ core (follow_keeps spec P row.command n a d d calm)
    (group_judged spec P r core.runs n row a told.0 told.1 calm d (c.judge-disposition.ensures.disp P core.runs))
    (silent (Judged row.command n d ∷ P) follow (follow_silent spec row.command n a d) (silent P (Judged row.command n d) tt core.stood))
    (idle _)
    (c.settle_by-follows.ensures.runs spec P core.runs))

pub returns-in_ok-reserve-in-Some-Answered : goal.returns-in_ok-reserve-in-Some-Answered
returns-in_ok-reserve-in-Some-Answered g c =
    let core = c.self.invariant in
    let spec = c.self.inside.spec in
    let before = c.self.inside.before in
    let P = reverse c.self.inside.book.entries in
    let r = c.self.inside.running in
    let n = c.args.n in
    let row = c.in-Some-Answered.row in
    let a = c.in-Some-Answered.answer in
    let d = c.judge-disposition.result in
    let follow = follow_of row.command n a d in
    let told = (rw c.in-Some-Answered.field-0-is at c.in-Some-Answered.ensures) spec P core.runs in
    let calm = unsettled_calm spec P core.legal n.0 (not_settled spec P r core.runs n row ByAnswer told.0) in
    rw (← c.self.view_is) (record {
      spec = refl;
      before = refl;
      group = Judged row.command n d ∷ follow ∷ [];
      journal = added2 c.self.inside.book.entries _ _ _ (Judged row.command n d) follow c.in_ok-reserve-in-Some-Answered.ensures.entries c.push.ensures.entries (rw c.settle_by-follows.ensures.entry at c.push-in-Some-Answered.ensures.entries);
      adds = record {
        opened = opens_judged spec P n row.command d;
        added = group_judged spec P r core.runs n row a told.0 told.1 calm d (c.judge-disposition.ensures.disp P core.runs);
        free = nothing_bars_settling spec P r core.runs n row ByAnswer told.0 (g.A.HostTemplate.is_due c.self.inside.lower (ticks P));
      };
      enters = follow_enters row.command n a d;
      tags = (row.tag.0, ByAnswer, c.settle_by-follows.ensures.shown.0, c.settle_by-follows.ensures.shown.1);
      nature = same_nature _;
    })

pub invariant_of-self-in-Some-Expired : goal.invariant_of-self-in-Some-Expired
invariant_of-self-in-Some-Expired g c =
    let core = c.self.invariant in
    let spec = c.self.inside.spec in
    let before = c.self.inside.before in
    let P = reverse c.self.inside.book.entries in
    let r = c.self.inside.running in
    let n = c.args.n in
    let laws = g.met.A.HostTemplate g.world.𝓛 g.world.𝓜 g.world.𝓡 ((λ s x. x), (λ x. x), (λ x. x), λ x. x) in
    let row = c.in-Some-Expired.row in
    let m = g.A.HostTemplate.means c.self.inside.lower in
    let e = c.settle_expired-entry.result in
    let told = (rw c.in-Some-Expired.field-0-is at c.in-Some-Expired.ensures) spec P core.runs in
    let right = c.settle_expired-entry.ensures.entry P core.runs in
    let calm = unsettled_calm spec P core.legal n.0 (not_settled spec P r core.runs n row ByExpiry told) in
    rw (back c.self.inside.book.entries _ _ e c.in_ok-reserve-in-Some-Expired.ensures.entries c.push-in-Some-Expired.ensures.entries)
    (core_grows _ _ _ _ _ _ P (e ∷ []) _ _ _ _ core
    (subst (λ (x : Entry). Keeps spec P (x ∷ [])) (sym right) (expired_keeps spec P row.command n calm))
    (group_expired spec P r core.runs n row told e right)
    (laws.silent c.self.inside.lower spec before P e (subst (λ (x : Entry). IsSilent spec x) (sym right) (expired_silent spec P row.command n)) core.stood)
    (subst (λ (x : Entry). Does spec P (x ∷ []) m m) (sym right) (expired_does spec P row.command n m))
    (c.settle_expired-entry.ensures.runs P core.runs))

pub returns-in_ok-reserve-in-Some-Expired : goal.returns-in_ok-reserve-in-Some-Expired
returns-in_ok-reserve-in-Some-Expired g c =
    let core = c.self.invariant in
    let spec = c.self.inside.spec in
    let before = c.self.inside.before in
    let P = reverse c.self.inside.book.entries in
    let r = c.self.inside.running in
    let n = c.args.n in
    let row = c.in-Some-Expired.row in
    let e = c.settle_expired-entry.result in
    let told = (rw c.in-Some-Expired.field-0-is at c.in-Some-Expired.ensures) spec P core.runs in
    let right = c.settle_expired-entry.ensures.entry P core.runs in
    rw (← c.self.view_is) (record {
      spec = refl;
      before = refl;
      group = e ∷ [];
      journal = added c.self.inside.book.entries _ _ e c.in_ok-reserve-in-Some-Expired.ensures.entries c.push-in-Some-Expired.ensures.entries;
      adds = record {
        opened = subst (λ (x : Entry). opens spec P (Settle n) x ≡ true) (sym right) (opens_expired spec P row.command n);
        added = added_expired spec P r core.runs n row told e right;
        free = nothing_bars_settling spec P r core.runs n row ByExpiry told (g.A.HostTemplate.is_due c.self.inside.lower (ticks P));
      };
      enters = subst (λ (x : Entry). list_all (may_enter (Settle n)) (x ∷ []) ≡ true) (sym right) (expired_enters spec P row.command n);
      tags = (row.tag.0, ByExpiry, c.settle_expired-entry.ensures.shown.0, c.settle_expired-entry.ensures.shown.1);
      nature = same_nature _;
    })
