use Rattle.std.proofs.Common.{◌≡◌, ◌∙◌, reverse, sym, subst, refl, [], ◌∷◌, List, Some}
use Rattle.std.specs.Prelude.{slice_get}
use Rattle.mid_base.specs.declared.entries.Entry.{Entry}
use Rattle.mid_base.specs.Past.{ticks}
use Rattle.verdict_table.specs.declared.verdicts.FailedRow.{FailedRow}
use Rattle.mid_core.proofs.Flushed.{IsFlushing, begun, nothing_left, head, flushing, nothing_bars_flushing}
use Rattle.mid_core.proofs.Holding.{same_nature}
use Rattle.mid_core.proofs.Growing.{core_grows, added, back}
use Rattle.mid_core.proofs.Staged.{each_of}
use Rattle.mid_core.proofs.machine.Core.flush.Goals as goal

pub flush_first-entry-requires : goal.flush_first-entry-requires
flush_first-entry-requires g c =
    let core = c.self.invariant in
    let P = reverse c.self.inside.book.entries in
    record {
      entries = P;
      runs = core.runs;
      legal = each_of c.self.inside.spec P core.legal;
      first = subst (λ (rows : List FailedRow). slice_get rows 0 ≡ Some c.in-Some-copied.failed) c.failed.ensures.rows (sym c.first.ensures.value ∙ sym c.copied.ensures ∙ c.in-Some-copied.is);
    }

pub invariant_of-self-2 : goal.invariant_of-self-2
invariant_of-self-2 g c =
    let core = c.self.invariant in
    let spec = c.self.inside.spec in
    let P = reverse c.self.inside.book.entries in
    let r = c.self.inside.running in
    let laws = g.met.A.HostTemplate g.world.𝓛 g.world.𝓜 g.world.𝓡 ((λ s x. x), (λ x. x), (λ x. x), λ x. x) in
    let x = c.in-Some-copied.failed in
    let each = each_of spec P core.legal in
    let begins = begun spec P c.self.inside.ladder c.in-Some.ladder c.in-Some.is core.stage in
    let none = nothing_left spec P c.self.inside.ladder c.in-Some.ladder c.in-Some.is core.stage c.left.result.now c.is_empty.result c.left.ensures c.is_empty.ensures c.if-not-is_empty.false in
    let first : slice_get r.verdicts.rows.items 0 ≡ Some x =
    subst (λ (rows : List FailedRow). slice_get rows 0 ≡ Some x) c.failed.ensures.rows (sym c.first.ensures.value ∙ sym c.copied.ensures ∙ c.in-Some-copied.is)
    in
    let e = c.flush_first-entry.result in
    let right = c.flush_first-entry.ensures.entry P each core.runs in
    let it = subst (λ (y : Entry). IsFlushing spec P y) (sym right) (flushing spec P each begins none x (head spec P r core.runs x first)) in
    rw (back c.self.inside.book.entries _ _ e c.in_ok-reserve.ensures.entries c.push.ensures.entries)
    (core_grows _ _ _ _ _ _ P (e ∷ []) _ _ _ _ core it.keeps it.group
    (laws.silent c.self.inside.lower spec c.self.inside.before P e it.silent core.stood)
    (it.does _)
    (c.flush_first-entry.ensures.runs P each core.runs))

pub returns : goal.returns
returns g c =
    let core = c.self.invariant in
    let spec = c.self.inside.spec in
    let P = reverse c.self.inside.book.entries in
    let r = c.self.inside.running in
    let x = c.in-Some-copied.failed in
    let each = each_of spec P core.legal in
    let begins = begun spec P c.self.inside.ladder c.in-Some.ladder c.in-Some.is core.stage in
    let none = nothing_left spec P c.self.inside.ladder c.in-Some.ladder c.in-Some.is core.stage c.left.result.now c.is_empty.result c.left.ensures c.is_empty.ensures c.if-not-is_empty.false in
    let first : slice_get r.verdicts.rows.items 0 ≡ Some x =
    subst (λ (rows : List FailedRow). slice_get rows 0 ≡ Some x) c.failed.ensures.rows (sym c.first.ensures.value ∙ sym c.copied.ensures ∙ c.in-Some-copied.is)
    in
    let e = c.flush_first-entry.result in
    let right = c.flush_first-entry.ensures.entry P each core.runs in
    let front = head spec P r core.runs x first in
    let it = subst (λ (y : Entry). IsFlushing spec P y) (sym right) (flushing spec P each begins none x front) in
    rw (← c.self.view_is) (record {
      spec = refl;
      before = refl;
      group = e ∷ [];
      journal = added c.self.inside.book.entries _ _ e c.in_ok-reserve.ensures.entries c.push.ensures.entries;
      adds = record {
        opened = it.opened;
        added = it.added;
        free = nothing_bars_flushing spec P each begins none x front (g.A.HostTemplate.is_due c.self.inside.lower (ticks P));
      };
      enters = it.enters;
      tags = c.flush_first-entry.ensures.shown;
      nature = same_nature _;
    })
