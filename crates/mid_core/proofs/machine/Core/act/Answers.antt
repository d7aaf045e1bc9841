use Rattle.std.proofs.Common.{◌∙◌, ap, sym, subst, refl, ℕ, List, length, reverse}
use Rattle.mid_base.specs.declared.entries.Entry.{Entry}
use Rattle.mid_base.specs.Past.{ticks}
use Rattle.verdict_table.specs.Taken.{AreTaken}
use Rattle.mid_core.proofs.Acted.{acts_taken, acts_add, acts_enter, back_onto, told_behind, tells_all, buffer_kept, core_acts}
use Rattle.mid_core.proofs.Staged.{each_of}
use Rattle.mid_core.proofs.machine.Core.act.Goals as goal

pub tell_all-requires-clause-runs : goal.tell_all-requires-clause-runs
tell_all-requires-clause-runs g c =
    let core = rw c.in-Some.is at c.self.invariant in
    let spec = c.self.inside.spec in
    let P = reverse c.self.inside.book.entries in
    let acted = rw c.in-Act.is at c.in_ok-entries.ensures.act in (
      P,
      core.runs,
      subst (λ (es : List Entry). AreTaken spec P es) (sym c.deref.ensures.value)
          (acts_taken spec P (each_of spec P core.legal) c.in-Some.ladder core.stage c.in-Act.level c.in-Act.scope c.in-Act.ok c.in-Act.entries.items acted.0 core.runs.limits),
    )

pub invariant_of-self-in-Act : goal.invariant_of-self-in-Act
invariant_of-self-in-Act g c =
    let core = rw c.in-Some.is at c.self.invariant in
    let spec = c.self.inside.spec in
    let before = c.self.inside.before in
    let P = reverse c.self.inside.book.entries in
    let es = c.in-Act.entries.items in
    let acted = rw c.in-Act.is at c.in_ok-entries.ensures.act in
    let stood = rw c.in-Act.is at c.in_ok-entries.ensures.stands in
    let did = rw c.in-Act.is at c.in_ok-entries.ensures.honest in
    let taken = acts_taken spec P (each_of spec P core.legal) c.in-Some.ladder core.stage c.in-Act.level c.in-Act.scope c.in-Act.ok es acted.0 core.runs.limits in
    let runs = tells_all spec P es c.deref.result.now _ _ c.deref.ensures.value core.runs taken c.tell_all.ensures.runs in
    let told = told_behind c.self.inside.book.entries _ _ es _ c.in_ok-reserve.ensures.entries c.deref.ensures.value c.tell_all.ensures.told in
    rw (back_onto c.self.inside.book.entries _ es told, acted.1)
    (core_acts _ _ _ _ _ _ P _ _ c.in-Some.ladder c.self.inside.probes.items _ c.in-Act.level c.in-Act.scope c.in-Act.ok es core acted.0 stood c.next.ensures.nature did runs
    (buffer_kept c.self.inside.probes.len c.self.inside.probes.items c.next.new.into core.buffer
    (sym c.deref_mut.ensures.len ∙ ap (λ (xs : List ℕ). length xs) c.deref_mut.ensures.value)
    (c.next.ensures.len ∙ ap (λ (xs : List ℕ). length xs) c.deref_mut.ensures.value)))

pub returns : goal.returns
returns g c =
    let core = rw c.in-Some.is at c.self.invariant in
    let spec = c.self.inside.spec in
    let P = reverse c.self.inside.book.entries in
    let es = c.in-Act.entries.items in
    let acted = rw c.in-Act.is at c.in_ok-entries.ensures.act in
    let each = each_of spec P core.legal in
    rw (← c.self.view_is) (record {
      spec = refl;
      before = refl;
      group = es;
      journal = told_behind c.self.inside.book.entries _ _ es _ c.in_ok-reserve.ensures.entries c.deref.ensures.value c.tell_all.ensures.told;
      adds = acts_add spec P each c.in-Some.ladder core.stage c.in-Act.level c.in-Act.scope c.in-Act.ok es acted.0 (g.A.HostTemplate.is_due c.self.inside.lower (ticks P));
      enters = acts_enter spec P each c.in-Some.ladder core.stage c.in-Act.level c.in-Act.scope c.in-Act.ok es acted.0 core.runs.limits;
      tags = c.tell_all.ensures.shown;
      nature = c.next.ensures.nature;
    })
