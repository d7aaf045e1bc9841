use Rattle.std.proofs.Common.{reverse, ◌≡◌, ◌∙◌, ap, sym, subst, refl, List, ◌∷◌, true, false, not, filter, Some}
use Rattle.disposition.specs.declared.todo.Todo.{Todo}
use Rattle.mid_base.specs.declared.entries.Entry.{Entry}
use Rattle.mid_base.specs.declared.entries.Entry.TheVariants.{EhBegin}
use Rattle.mid_base.specs.Past.{ticks}
use Rattle.mid_base.specs.Levels.{not_online, number}
use Rattle.escalation.specs.Climbing.{Climb, begun, online_alone}
use Rattle.climb_laws.specs.LadderOf.{IsLadderOf, begun_at, lost_cleared}
use Rattle.climb_laws.proofs.Begins.{begun_ladder, begun_group, has_begun_there}
use Rattle.host_state.specs.HostAgrees.{HostAgrees}
use Rattle.recovery_laws.proofs.Owing.{cleared_taken}
use Rattle.trace_model.specs.Flush.{is_empty}
use Rattle.trace_model.specs.Legal.{onto}
use Rattle.trace_model.specs.Recovery.{failed, is_quiet, listed}
use Rattle.trace_model.specs.Rules.{is_lost}
use Rattle.verdict_table.specs.Taken.{AreTaken}
use Rattle.mid_core.proofs.Staged.{each_of, stage_calm}
use Rattle.mid_core.proofs.Holding.{idle, same_nature}
use Rattle.mid_core.proofs.Growing.{core_recovers}
use Rattle.mid_core.proofs.Begins.{lost_is, stands_cleared, cleared_enter, added_all, back_all, begins, nothing_bars_beginning}
use Rattle.mid_core.proofs.machine.Core.begin_recovery.Goals as goal

pub todo_of-requires : goal.todo_of-requires
todo_of-requires g c =
    let core = c.self.invariant in
    (reverse c.self.inside.book.entries, core.runs, each_of c.self.inside.spec (reverse c.self.inside.book.entries) core.legal)

pub tell_all-requires-clause-runs : goal.tell_all-requires-clause-runs
tell_all-requires-clause-runs g c =
    let core = c.self.invariant in
    let spec = c.self.inside.spec in
    let P = reverse c.self.inside.book.entries in
    let todo : c.deref.result.now ≡ listed spec P = c.deref.ensures.value ∙ c.in_ok-todo.ensures P core.runs (each_of spec P core.legal) in
    let cleared : c.deref-2.result.now ≡ lost_cleared spec P = c.deref-2.ensures.value ∙ c.in_ok-cleared.ensures ∙ lost_is spec P c.deref.result.now todo in (
      EhBegin ∷ P,
      c.begin_recovery.ensures.runs spec P core.runs,
      subst (λ (es : List Entry). AreTaken spec (EhBegin ∷ P) es) (sym cleared) (cleared_taken spec (EhBegin ∷ P) (number not_online) (filter (is_lost spec P) (listed spec P))),
    )

pub invariant_of-self-2 : goal.invariant_of-self-2
invariant_of-self-2 g c =
    let core = c.self.invariant in
    let laws = g.met.A.HostTemplate g.world.𝓛 g.world.𝓜 g.world.𝓡 ((λ s x. x), (λ x. x), (λ x. x), λ x. x) in
    let spec = c.self.inside.spec in
    let before = c.self.inside.before in
    let P = reverse c.self.inside.book.entries in
    let calm = stage_calm spec P c.self.inside.ladder (sym c.is_some.ensures ∙ c.if-is_some.false) core.stage in
    let some : is_empty (failed P) ≡ false = c.has_failed.ensures spec P core.runs ∙ ap not c.if-not-has_failed.false in
    let quiet : is_quiet spec P ≡ true = c.is_quiet.ensures spec P core.runs ∙ c.if-not-is_quiet.false in
    let todo : c.deref.result.now ≡ listed spec P = c.deref.ensures.value ∙ c.in_ok-todo.ensures P core.runs (each_of spec P core.legal) in
    let items = sym c.deref.ensures.value ∙ todo in
    let cleared : c.deref-2.result.now ≡ lost_cleared spec P = c.deref-2.ensures.value ∙ c.in_ok-cleared.ensures ∙ lost_is spec P c.deref.result.now todo in
    let taken = cleared_taken spec (EhBegin ∷ P) (number not_online) (filter (is_lost spec P) (listed spec P)) in
    let runs = c.tell_all.ensures.runs (EhBegin ∷ P) (c.begin_recovery.ensures.runs spec P core.runs) (subst (λ (es : List Entry). AreTaken spec (EhBegin ∷ P) es) (sym cleared) taken) in
    let ladder : c.leave_offline.new.self ≡ online_alone (begun (listed spec P) spec.handlers spec.no_async_abort) =
    c.leave_offline.ensures ∙ ap online_alone (c.in_ok-ladder.ensures ∙ ap (λ (xs : List Todo). begun xs spec.handlers spec.no_async_abort) items)
    in
    rw (back_all c.self.inside.book.entries _ _ _ EhBegin (lost_cleared spec P) c.in_ok-reserve.ensures.entries c.push.ensures.entries (rw cleared at c.tell_all.ensures.told))
    (core_recovers _ _ _ _ _ _ P (EhBegin ∷ lost_cleared spec P) _ _ _ (Some c.leave_offline.new.self) _ _ core
    (begun_group spec P (begins spec P calm some quiet))
    (stands_cleared _ (laws.silent c.self.inside.lower) spec before (EhBegin ∷ P) (filter (is_lost spec P) (listed spec P)) (laws.silent c.self.inside.lower spec before P EhBegin tt core.stood))
    (idle _)
    (subst (λ (es : List Entry). HostAgrees spec (onto es (EhBegin ∷ P)) c.tell_all.new.running) cleared runs)
    (has_begun_there spec P, subst (λ (k : Climb). IsLadderOf spec (begun_at spec P) k) (sym ladder) (begun_ladder spec P))
    core.buffer)

pub returns : goal.returns
returns g c =
    let core = c.self.invariant in
    let spec = c.self.inside.spec in
    let P = reverse c.self.inside.book.entries in
    let calm = stage_calm spec P c.self.inside.ladder (sym c.is_some.ensures ∙ c.if-is_some.false) core.stage in
    let some : is_empty (failed P) ≡ false = c.has_failed.ensures spec P core.runs ∙ ap not c.if-not-has_failed.false in
    let quiet : is_quiet spec P ≡ true = c.is_quiet.ensures spec P core.runs ∙ c.if-not-is_quiet.false in
    let todo : c.deref.result.now ≡ listed spec P = c.deref.ensures.value ∙ c.in_ok-todo.ensures P core.runs (each_of spec P core.legal) in
    let cleared : c.deref-2.result.now ≡ lost_cleared spec P = c.deref-2.ensures.value ∙ c.in_ok-cleared.ensures ∙ lost_is spec P c.deref.result.now todo in
    rw (← c.self.view_is) (record {
      spec = refl;
      before = refl;
      group = EhBegin ∷ lost_cleared spec P;
      journal = added_all c.self.inside.book.entries _ _ _ EhBegin (lost_cleared spec P) c.in_ok-reserve.ensures.entries c.push.ensures.entries (rw cleared at c.tell_all.ensures.told);
      adds = record {
        opened = refl;
        added = begun_group spec P (begins spec P calm some quiet);
        free = nothing_bars_beginning spec P calm some quiet (g.A.HostTemplate.is_due c.self.inside.lower (ticks P));
      };
      enters = cleared_enter (filter (is_lost spec P) (listed spec P));
      tags = c.tell_all.ensures.shown ∙ c.begin_recovery.ensures.shown;
      nature = same_nature _;
    })
